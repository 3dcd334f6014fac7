use Rattle.std.proofs.Common.{refl, sym, ap, subst, ◌∙◌}
use Rattle.std.specs.Prelude.{IsNone}
use Rattle.swc_ast.specs.declared.declarations.Decl.TheViews.{out-roll-SwitchStmt}
use Rattle.swc_utils.specs.Globals.{unresolved}
use Rattle.branch_rules.specs.Turns.{as_it_was}
use Rattle.branch_switch.proofs.Forms.{turned, idle_rests}
use Rattle.branch_switch.proofs.switch.fold_switch.Goals as goal

pub returns-in_ok-s-in-Some-clause-steps : goal.returns-in_ok-s-in-Some-clause-steps
returns-in_ok-s-in-Some-clause-steps c =
    turned (unresolved c.args.ctx.now) c.args.n.now _ c.in_ok-s-in-Some.s c.deref_mut.result.now c.replace-cases.result.items
    (c.deref_mut.ensures.value ∙ ap (λ m. m.discriminant.value) (out-roll-SwitchStmt _)) (ap (λ v. v.items) c.replace-cases.ensures.value) c.in_ok-s-in-Some.ensures

pub returns-in-None-clause-steps : goal.returns-in-None-clause-steps
returns-in-None-clause-steps c = as_it_was refl

pub returns-in-None-clause-finished : goal.returns-in-None-clause-finished
returns-in-None-clause-finished c = λ h. idle_rests (unresolved c.args.ctx.now) c.args.n.now _ refl (c.in_ok-plan.ensures.rests (subst IsNone (sym c.in-None.is) h))
