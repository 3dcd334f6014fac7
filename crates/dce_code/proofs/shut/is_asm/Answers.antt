use Rattle.std.proofs.Common.{[], ◌∷◌, sym, ap, ◌∙◌}
use Rattle.swc_ast.proofs.Equations.{stmt_tree-Expr}
use Rattle.swc_ast.specs.Reach.{is_asm}
use Rattle.swc_ast.specs.Tree.{ExprStmt, node, ε, ◌⊳◌}
use Rattle.swc_ast.specs.Views.{expr_tree, stmt_tree}
use Rattle.dce_code.proofs.shut.is_asm.Goals as goal

pub returns-in-Expr : goal.returns-in-Expr
returns-in-Expr c = λ h.
    ap is_asm (ap stmt_tree c.in-Expr.is ∙ stmt_tree-Expr _)
    ∙ ap (λ e. is_asm (node ExprStmt (c.in-Expr.n.span ∷ []) (expr_tree e ⊳ ε))) (sym c.deref.ensures)
    ∙ c.is_asm_text.ensures h (c.in-Expr.n.span ∷ [])
