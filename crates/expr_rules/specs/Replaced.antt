-- What a fold answers, and the nodes that none of them leaves.
use Rattle.std.specs.Prelude.{ℕ, ◌≡◌, Bool, false, Option, Some, None}
use Rattle.swc_ast.specs.declared.expressions.Expr.{Expr}
use Rattle.swc_ast.specs.Tree.{Label, Unary, Binary, Cond, Tree, Forest, ε, ◌⊳◌}
use Rattle.swc_ast.specs.Redex.{unary_redex, binary_redex, is_simple_literal}
use Rattle.swc_ast.specs.Views.{expr_tree}
use Rattle.expr_rules.specs.ExprSteps.{ExprStep}

-- what takes the place of a node, by one of the rules; or none, and then the node, t before and u now, is as it was
abbrev pub Replaced : ℕ → Tree → Tree → Option Expr → Type 0
Replaced mark t u (Some e) = ExprStep mark t (expr_tree e)
Replaced mark t u None = u ≡ t

-- an operator or a condition on literals that tell what it gives
abbrev pub expr_redex : Label → Forest → Bool
expr_redex (Binary op) (a ⊳ b ⊳ ε) = binary_redex op a b
expr_redex (Unary op) (a ⊳ ε) = unary_redex op a
expr_redex Cond (t ⊳ cs) = is_simple_literal t
expr_redex _ cs = false
