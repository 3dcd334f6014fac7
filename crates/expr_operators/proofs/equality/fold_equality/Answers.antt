use Rattle.std.proofs.Common.{[], ◌∷◌, ap, ◌∙◌}
use Rattle.swc_ast.specs.Views.{expr_tree}
use Rattle.swc_utils.specs.Globals.{unresolved}
use Rattle.swc_utils.specs.Sound.{known}
use Rattle.pass_rules.specs.Leaves.{truth_tree}
use Rattle.expr_operators.proofs.BinarySteps.{equality_step}
use Rattle.expr_operators.proofs.equality.fold_equality.Goals as goal

pub returns-in_ok-behind_operands-in-Known-clause-steps : goal.returns-in_ok-behind_operands-in-Known-clause-steps
returns-in_ok-behind_operands-in-Known-clause-steps c = λ q.
    equality_step (unresolved c.args.ctx.now) c.args.n.now.op c.args.n.now.span (expr_tree c.args.n.now.left.value) (expr_tree c.args.n.now.right.value) _ _ c.in-Known.equal q
    (cc (c.deref-3.ensures, c.deref-4.ensures, c.in_ok-equal.ensures, ap known c.in-Known.is))
    (c.truth_expr-value.ensures ∙ ap (truth_tree (c.args.n.now.span ∷ [])) c.tell.ensures)
    c.in_ok-behind_operands-in-Known.ensures
