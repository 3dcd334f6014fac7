use Rattle.std.proofs.Common.{[], ◌∷◌, sym, ◌∙◌, subst}
use Rattle.swc_ast.specs.Tree.{Binary, node, ε, ◌⊳◌}
use Rattle.swc_ast.specs.Views.{expr_tree}
use Rattle.swc_utils.specs.Globals.{unresolved}
use Rattle.swc_utils.specs.Sound.{numeric}
use Rattle.expr_rules.specs.ExprSteps.{ExprStep}
use Rattle.expr_operators.proofs.Regrouped.{regrouped_step}
use Rattle.expr_operators.proofs.numbers.fold_regrouped.Goals as goal

pub returns-in_ok-binary_expr-in-Known-clause-steps : goal.returns-in_ok-binary_expr-in-Known-clause-steps
returns-in_ok-binary_expr-in-Known-clause-steps c =
    let mark = unresolved c.args.ctx.now in
    let n = c.args.n.now in
    let known = c.in-Known.ensures in
    let step = regrouped_step mark n.op n.span c.deref.result.now (expr_tree c.deref-2.result.now) c.in_ok-binary_expr-in-Known.field-0 c.take_first-left.result c.in_ok-right-in-Known.right (numeric c.in-Known.number) known (c.take_first-left.ensures known.inner (c.deref_mut.ensures.value ∙ sym c.deref.ensures ∙ known.is)) c.in_ok-right-in-Known.ensures c.in_ok-binary_expr-in-Known.ensures in
    subst (λ x. ExprStep mark (node (Binary n.op) (n.span ∷ []) (expr_tree x ⊳ expr_tree n.right.value ⊳ ε)) (expr_tree c.in_ok-binary_expr-in-Known.field-0)) c.deref.ensures
    (subst (λ x. ExprStep mark (node (Binary n.op) (n.span ∷ []) (expr_tree c.deref.result.now ⊳ expr_tree x ⊳ ε)) (expr_tree c.in_ok-binary_expr-in-Known.field-0)) c.deref-2.ensures step)
