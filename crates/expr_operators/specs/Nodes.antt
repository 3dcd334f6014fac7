-- The trees of operators over the trees of their operands, where the operator is given.
use Rattle.std.specs.Prelude.{[], ◌∷◌}
use Rattle.swc_ast.specs.Tree.{Binary, Cond, Tree, node, ε, ◌⊳◌}
use Rattle.swc_ast.specs.Expressions.{unary_node}
use Rattle.swc_ast.specs.Views.{expr_tree}
use Rattle.swc_ast.specs.declared.UnaryOp.{UnaryOp}
use Rattle.swc_ast.specs.declared.BinaryOp.{BinaryOp}
use Rattle.swc_ast.specs.declared.expressions.BinExpr.{BinExpr}
use Rattle.swc_ast.specs.declared.expressions.CondExpr.{CondExpr}
use Rattle.swc_ast.specs.declared.expressions.UnaryExpr.{UnaryExpr}
use Rattle.swc_ast.specs.declared.expressions.Expr.{Expr}

-- an operator in front of the operand of a node
abbrev pub unary_at : UnaryOp → UnaryExpr Expr → Tree
unary_at op n = unary_node op n.span (expr_tree n.arg.value)

-- an operator between the operands of a node
abbrev pub binary_at : BinaryOp → BinExpr Expr → Tree
binary_at op n = node (Binary op) (n.span ∷ []) (expr_tree n.left.value ⊳ expr_tree n.right.value ⊳ ε)

-- an operator in front of its operand
abbrev pub unary_of : UnaryExpr Expr → Tree
unary_of n = unary_at n.op n

-- an operator between its operands
abbrev pub binary_of : BinExpr Expr → Tree
binary_of n = binary_at n.op n

-- `a ? b : c`
abbrev pub cond_of : CondExpr Expr → Tree
cond_of n = node Cond (n.span ∷ []) (expr_tree n.test.value ⊳ expr_tree n.cons.value ⊳ expr_tree n.alt.value ⊳ ε)
