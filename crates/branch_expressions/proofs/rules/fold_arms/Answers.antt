use Rattle.std.proofs.Common.{[], ◌∷◌, sym, ap, ◌∙◌}
use Rattle.swc_ast.specs.Views.{expr_tree}
use Rattle.swc_utils.specs.Globals.{unresolved}
use Rattle.swc_utils.specs.Pure.{pure}
use Rattle.pass_rules.specs.Defaults.{is_void}
use Rattle.branch_rules.specs.Expressions.{always_void}
use Rattle.branch_expressions.proofs.Fronts.{arms_step, pure_of}
use Rattle.branch_expressions.proofs.rules.fold_arms.Goals as goal

pub returns : goal.returns
returns c =
    let mark = unresolved c.args.ctx.now in
    arms_step mark (c.args.n.now.span ∷ []) (expr_tree c.args.n.now.test.value) (expr_tree c.args.n.now.cons.value) (expr_tree c.args.n.now.alt.value) (expr_tree c.args.n.now.alt.value) c.take.result
    (sym (ap (λ x. pure mark (expr_tree x)) c.deref.ensures) ∙ pure_of _ _ c.may_have_side_effects.ensures.answer c.if-may_have_side_effects.false)
    (sym (ap (λ x. always_void mark (expr_tree x)) c.deref-else-may_have_side_effects.ensures) ∙ c.is_always_void.ensures c.if-not-is_always_void.false)
    (sym (ap (λ x. is_void mark (expr_tree x)) c.deref-else-not-is_always_void.ensures) ∙ c.is_void.ensures c.if-not-is_void.false)
    (ap expr_tree (c.take.ensures ∙ c.deref_mut.ensures.value))
