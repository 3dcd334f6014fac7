-- What may take the place of a node.
use Rattle.std.specs.Prelude.{ℕ, ◌≡◌, Bool, List, Option, IfSome}
use Rattle.swc_ast.specs.Tree.{Binary, Tree, node, ε, ◌⊳◌}
use Rattle.swc_ast.specs.declared.BinaryOp.{BinaryOp}
use Rattle.swc_ast.specs.Views.{expr_tree}
use Rattle.swc_ast.specs.Operators.{Numeric}
use Rattle.swc_ast.specs.declared.expressions.BinExpr.{BinExpr}
use Rattle.swc_ast.specs.declared.expressions.Expr.{Expr}
use Rattle.swc_ast.specs.declared.expressions.Expr.TheVariants.{Bin}
use Rattle.swc_ast.specs.declared.Span.{Span}
use Rattle.expr_rules.specs.ExprSteps.{ExprStep}
use Rattle.pass_rules.specs.Leaves.{number_tree, truth_tree}

-- what takes the place of a node by one of the rules, if anything does
abbrev pub Stands : ℕ → Tree → Option Expr → Type 0
Stands mark t o = IfSome o (λ e. ExprStep mark t (expr_tree e))

-- a truth may stand where an operator stands between two operands
abbrev pub TruthStep : ℕ → BinaryOp → Tree → Tree → Bool → Type 0
TruthStep mark op a b r = (ss rs : List Span) → ExprStep mark (node (Binary op) ss (a ⊳ b ⊳ ε)) (truth_tree rs r)

-- an operator between one of the same kind and c may stand between the first operand of that and a number
pub record Regroups (mark : ℕ) (op : BinaryOp) (left : Expr) (c : Tree) (k : Numeric) : Type 0 where
  pub inner : BinExpr Expr
  pub is : left ≡ Bin inner
  pub step : (ss rs ns : List Span) → ExprStep mark (node (Binary op) ss (expr_tree left ⊳ c ⊳ ε)) (node (Binary op) rs (expr_tree inner.left.value ⊳ number_tree mark ns k ⊳ ε))
