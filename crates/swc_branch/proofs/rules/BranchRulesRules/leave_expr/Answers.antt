use Rattle.std.proofs.Common.{refl, sym, subst}
use Rattle.tree_walk.specs.Walks.{Fits}
use Rattle.swc_branch.proofs.Resting.{expr_rests}
use Rattle.swc_branch.proofs.Shields.{folded_at, unfolded_at, shielded_fits}
use Rattle.swc_branch.proofs.rules.BranchRulesRules.leave_expr.Goals as goal

pub returns-in_ok-e-in-Some-clause-steps : goal.returns-in_ok-e-in-Some-clause-steps
returns-in_ok-e-in-Some-clause-steps c = folded_at _ _ _ _ _ c.in-Some.folded c.in_ok-e-in-Some.field-0 (cc (c.is_cramped.ensures, c.if-is_cramped.false)) c.in-Some.is c.in_ok-folded.ensures c.in_ok-e-in-Some.ensures

pub returns-in_ok-e-in-Some-clause-fits : goal.returns-in_ok-e-in-Some-clause-fits
returns-in_ok-e-in-Some-clause-fits c = λ h. subst (Fits c.args.place) (sym c.in_ok-e-in-Some.ensures) (shielded_fits c.args.place _)

pub returns-in-None-clause-steps : goal.returns-in-None-clause-steps
returns-in-None-clause-steps c = (unfolded_at _ _ _ _ c.in-None.is c.in_ok-folded.ensures, expr_rests c.fold_expr.new.e)

pub returns-then-not-is_ruled-clause-steps : goal.returns-then-not-is_ruled-clause-steps
returns-then-not-is_ruled-clause-steps c = (refl, expr_rests c.args.e.now)
