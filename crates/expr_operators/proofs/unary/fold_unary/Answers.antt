use Rattle.std.proofs.Common.{refl}
use Rattle.expr_operators.proofs.UnaryRests.{always, both, kept_rests, so}
use Rattle.expr_operators.proofs.unary.fold_unary.Goals as goal

pub returns-in-Bang-clause-finished : goal.returns-in-Bang-clause-finished
returns-in-Bang-clause-finished c = both _ c.fold_not.ensures.kept c.fold_not.ensures.finished (λ p q. kept_rests _ _ _ p c.in-Bang.is q)

pub returns-in-Plus-clause-finished : goal.returns-in-Plus-clause-finished
returns-in-Plus-clause-finished c = always _ (kept_rests c.args.n.now c.args.n.now _ refl c.in-Plus.is refl)

pub returns-in-Minus-clause-finished : goal.returns-in-Minus-clause-finished
returns-in-Minus-clause-finished c = always _ (kept_rests c.args.n.now c.args.n.now _ refl c.in-Minus.is refl)

pub returns-in-Tilde-clause-finished : goal.returns-in-Tilde-clause-finished
returns-in-Tilde-clause-finished c = always _ (kept_rests c.args.n.now c.args.n.now _ refl c.in-Tilde.is refl)

pub returns-in-Void-clause-finished : goal.returns-in-Void-clause-finished
returns-in-Void-clause-finished c = so _ c.fold_void.ensures.finished (λ q. kept_rests c.args.n.now c.args.n.now _ refl c.in-Void.is q)

pub returns-in-TypeOf-clause-finished : goal.returns-in-TypeOf-clause-finished
returns-in-TypeOf-clause-finished c = both _ c.fold_typeof.ensures.kept c.fold_typeof.ensures.finished (λ p q. kept_rests _ _ _ p c.in-TypeOf.is q)

pub returns-in-Delete-clause-finished : goal.returns-in-Delete-clause-finished
returns-in-Delete-clause-finished c = λ h. kept_rests c.args.n.now c.args.n.now _ refl c.in-Delete.is refl
