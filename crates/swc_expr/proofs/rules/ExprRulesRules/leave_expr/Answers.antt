use Rattle.std.proofs.Common.{sym, subst}
use Rattle.tree_walk.specs.Walks.{Fits}
use Rattle.swc_expr.proofs.Shields.{folded_at, shielded_fits}
use Rattle.swc_expr.proofs.rules.ExprRulesRules.leave_expr.Goals as goal

pub returns-in-Ok-Some-clause-steps : goal.returns-in-Ok-Some-clause-steps
returns-in-Ok-Some-clause-steps c = folded_at _ _ _ _ c.in-Ok-Some.field-0 c.in-Ok-Some.folded c.in_ok-e-in-Ok-Some.field-0 (cc (c.is_shield.ensures, c.if-is_shield.false)) c.in-Ok-Some.field-0-is c.in-Ok-Some.ensures.steps c.in_ok-e-in-Ok-Some.ensures

pub returns-in-Ok-Some-clause-fits : goal.returns-in-Ok-Some-clause-fits
returns-in-Ok-Some-clause-fits c = λ h. subst (Fits c.args.place) (sym c.in_ok-e-in-Ok-Some.ensures) (shielded_fits c.args.place _)
