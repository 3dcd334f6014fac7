use Rattle.std.proofs.Common.{ap, ◌∙◌}
use Rattle.swc_ast.proofs.Equations.{stmt_tree-Expr}
use Rattle.swc_ast.specs.Parts.{list_trees}
use Rattle.swc_ast.specs.Scope.{joined}
use Rattle.swc_ast.specs.Tree.{ε, ◌⊳◌}
use Rattle.swc_ast.specs.Views.{expr_tree, stmt_tree}
use Rattle.swc_utils.proofs.Chains.{pushed}
use Rattle.branch_parts.specs.Behind.{alone_tree}
use Rattle.branch_parts.proofs.behind.push_expr.Goals as goal

pub returns : goal.returns
returns c =
    ap (list_trees stmt_tree) c.in_ok-push.ensures.items
    ∙ pushed stmt_tree c.args.out.now.items _
    ∙ ap (λ t. joined (list_trees stmt_tree c.args.out.now.items) (t ⊳ ε)) (stmt_tree-Expr _ ∙ ap (λ x. alone_tree (expr_tree x)) c.in_ok-expr.ensures.ok)
