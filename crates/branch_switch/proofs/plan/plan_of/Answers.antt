use Rattle.std.proofs.Common.{◌≡◌, false, subst}
use Rattle.std.specs.Prelude.{IfOk, IfSome, IsNone}
use Rattle.swc_ast.specs.Views.{expr_tree}
use Rattle.swc_utils.specs.Globals.{unresolved}
use Rattle.branch_switch.specs.Clauses.{all_idle, cases_of, clauses}
use Rattle.branch_switch.specs.Plans.{Planned}
use Rattle.branch_switch.proofs.plan.plan_of.Goals as goal

pub returns-clause-planned : goal.returns-clause-planned
returns-clause-planned c =
    subst (λ x. IfOk c.plan_with.result (λ o. IfSome o (λ p. Planned (unresolved c.args.ctx.now) (expr_tree x) (cases_of c.args.n.now) p))) c.deref.ensures
    (subst (λ xs. IfOk c.plan_with.result (λ o. IfSome o (λ p. Planned (unresolved c.args.ctx.now) (expr_tree c.deref.result.now) xs p))) c.deref-2.ensures.value c.plan_with.ensures.planned)

pub returns-clause-rests : goal.returns-clause-rests
returns-clause-rests c =
    subst (λ xs. IfOk c.plan_with.result (λ o. IsNone o → all_idle (unresolved c.args.ctx.now) (clauses xs) ≡ false)) c.deref-2.ensures.value c.plan_with.ensures.rests
