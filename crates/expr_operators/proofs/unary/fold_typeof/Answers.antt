use Rattle.std.proofs.Common.{[], ◌∷◌, sym, ap, ◌∙◌}
use Rattle.swc_ast.specs.Views.{expr_tree}
use Rattle.swc_utils.specs.Effects.{is_read}
use Rattle.swc_utils.specs.Globals.{unresolved}
use Rattle.pass_rules.specs.Leaves.{text_tree}
use Rattle.expr_rules.specs.TypeNames.{typeof_known}
use Rattle.expr_operators.proofs.UnarySteps.{typeof_step}
use Rattle.expr_operators.proofs.unary.fold_typeof.Goals as goal

pub returns-in_ok-behind_operand-in-Some-clause-steps : goal.returns-in_ok-behind_operand-in-Some-clause-steps
returns-in_ok-behind_operand-in-Some-clause-steps c =
    let mark = unresolved c.args.ctx.now in
    let at = ap expr_tree c.deref-3.ensures in
    typeof_step mark c.args.n.now.span (expr_tree c.args.n.now.arg.value) _ _ c.in-Some.word.now
    (sym (ap is_read at) ∙ c.in-Some.ensures.no_name)
    (sym (ap (typeof_known mark) at) ∙ c.in-Some.ensures.known mark)
    (c.text_expr-value.ensures ∙ ap (text_tree (c.args.n.now.span ∷ [])) c.in_ok-text-in-Some.ensures.ok)
    c.in_ok-behind_operand-in-Some.ensures
