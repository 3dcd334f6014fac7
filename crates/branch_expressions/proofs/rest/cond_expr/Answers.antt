use Rattle.std.proofs.Common.{[], ◌∷◌, ap, ◌∙◌}
use Rattle.swc_ast.specs.Tree.{Cond, node, ε, ◌⊳◌}
use Rattle.swc_ast.specs.Views.{expr_tree}
use Rattle.swc_ast.proofs.Equations.{expr_tree-Cond}
use Rattle.branch_expressions.proofs.rest.cond_expr.Goals as goal

pub returns : goal.returns
returns c =
    expr_tree-Cond _
    ∙ ap (λ x. node Cond (c.args.span ∷ []) (expr_tree x ⊳ expr_tree c.in_ok-cons.cons.value ⊳ expr_tree c.in_ok-alt.alt.value ⊳ ε)) c.in_ok-test.ensures.ok
    ∙ ap (λ x. node Cond (c.args.span ∷ []) (expr_tree c.args.test ⊳ expr_tree x ⊳ expr_tree c.in_ok-alt.alt.value ⊳ ε)) c.in_ok-cons.ensures.ok
    ∙ ap (λ x. node Cond (c.args.span ∷ []) (expr_tree c.args.test ⊳ expr_tree c.args.cons ⊳ expr_tree x ⊳ ε)) c.in_ok-alt.ensures.ok
