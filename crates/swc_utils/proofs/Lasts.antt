-- The last of some expressions.
use Rattle.std.proofs.Common.{◌≡◌, ℕ, suc, ◌-◌, ◌≤◌, List, [], ◌∷◌, length, get_or, sym, ap, ◌∙◌, arith}
use Rattle.swc_ast.specs.Tree.{Tree, Forest, ε, ◌⊳◌}
use Rattle.swc_ast.specs.Parts.{list_trees}
use Rattle.swc_ast.specs.Views.{expr_tree}
use Rattle.swc_ast.specs.declared.expressions.Expr.{Expr}

one_less : (n : ℕ) → suc n - 1 ≡ n
one_less n = omega arith

-- an answer on the last of some trees
module _ {A : Type 0} (answer : Tree → A) (last : Forest → A) (one : (t : Tree) → last (t ⊳ ε) ≡ answer t) (more : (t u : Tree) (ts : Forest) → last (t ⊳ u ⊳ ts) ≡ last (u ⊳ ts)) where
  at_end : (y : Expr) (ys : List Expr) (x : Expr) → x ≡ get_or (y ∷ ys) (length ys) x → last (list_trees expr_tree (y ∷ ys)) ≡ answer (expr_tree x)
  at_end y [] x at = one (expr_tree y) ∙ ap (λ e. answer (expr_tree e)) (sym at)
  at_end y (z ∷ zs) x at = more (expr_tree y) (expr_tree z) (list_trees expr_tree zs) ∙ at_end z zs x at

  pub at_last : (xs : List Expr) (x : Expr) → 1 ≤ length xs → x ≡ get_or xs (length xs - 1) x → last (list_trees expr_tree xs) ≡ answer (expr_tree x)
  at_last [] x h at = absurd (omega (arith, h))
  at_last (y ∷ ys) x h at = at_end y ys x (at ∙ ap (λ n. get_or (y ∷ ys) n x) (one_less (length ys)))
