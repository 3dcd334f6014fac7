use Rattle.std.proofs.Common.{[], ◌∷◌, ap, ◌∙◌}
use Rattle.swc_ast.proofs.Equations.{stmt_tree-Expr}
use Rattle.swc_ast.specs.Tree as tree
use Rattle.swc_ast.specs.Tree.{node, ε, ◌⊳◌}
use Rattle.swc_ast.specs.Views.{expr_tree}
use Rattle.dce_code.proofs.values.expr_statement.Goals as goal

pub returns : goal.returns
returns c = stmt_tree-Expr _ ∙ ap (λ e. node tree.ExprStmt (c.args.span ∷ []) (expr_tree e ⊳ ε)) c.in_ok-expr.ensures.ok
