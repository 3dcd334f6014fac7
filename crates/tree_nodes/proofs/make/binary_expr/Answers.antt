use Rattle.std.proofs.Common.{[], ◌∷◌, ap, ◌∙◌}
use Rattle.swc_ast.specs.Tree.{Binary, node, ε, ◌⊳◌}
use Rattle.swc_ast.specs.Views.{expr_tree}
use Rattle.swc_ast.proofs.Equations.{expr_tree-Bin}
use Rattle.tree_nodes.proofs.make.binary_expr.Goals as goal

pub returns : goal.returns
returns c =
    expr_tree-Bin _
    ∙ ap (λ x. node (Binary c.args.op) (c.args.span ∷ []) (expr_tree x ⊳ expr_tree c.in_ok-right.right.value ⊳ ε)) c.in_ok-left.ensures.ok
    ∙ ap (λ x. node (Binary c.args.op) (c.args.span ∷ []) (expr_tree c.args.left ⊳ expr_tree x ⊳ ε)) c.in_ok-right.ensures.ok
