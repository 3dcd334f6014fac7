use Rattle.std.proofs.Common.{rules, refl, subst}
use Rattle.swc_ast.specs.Views.{stmt_tree}
use Rattle.branch_rules.specs.Turns.{as_it_was}
use Rattle.branch_loops.specs.Bodies.{Outweighs}
use Rattle.branch_loops.proofs.ForSteps.{never_for, no_body, no_update, test_is_false}
use Rattle.branch_loops.proofs.fors.fold_never.Goals as goal

pub returns-then-not-has_init : goal.returns-then-not-has_init
returns-then-not-has_init c = λ mark h. never_for mark c.args.n.now _ _ _ c.in_ok-names_left.ensures c.deref.ensures (c.has_init.ensures c.if-not-has_init.true) h

pub returns-then-has_update : goal.returns-then-has_update
returns-then-has_update c = λ mark h. no_update mark c.args.n.now _ h _ _ c.in_ok-take_for.ensures (c.has_update.ensures c.if-has_update.true) refl refl refl refl

pub returns-then-outweighs : goal.returns-then-outweighs
returns-then-outweighs c = λ mark h.
    no_body mark c.args.n.now _ h _ _ _ _ c.in_ok-take_for-2.ensures c.in_ok-n.ensures c.deref-then-outweighs.ensures
    (subst (λ x. Outweighs (stmt_tree x)) c.deref-2.ensures (c.outweighs.ensures c.if-outweighs.true))
    (search rules) refl refl refl

pub returns-then-is_open : goal.returns-then-is_open
returns-then-is_open c = λ mark h. test_is_false mark c.args.n.now _ h _ _ c.in_ok-take_for-3.ensures (c.is_open.ensures c.if-is_open.true) (search rules) refl refl refl

pub returns : goal.returns
returns c = λ mark h. as_it_was refl
