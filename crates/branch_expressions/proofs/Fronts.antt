-- What takes the place of sequences and choices.
use Rattle.std.proofs.Common.{◌≡◌, ℕ, Bool, true, false, not, List, [], ◌∷◌, ◌++◌, length, refl, sym, ap, subst, ◌∙◌, arith}
use Rattle.swc_ast.specs.Tree as tree
use Rattle.swc_ast.specs.Tree.{Tree, node, ε, ◌⊳◌}
use Rattle.swc_ast.specs.declared.Span.{Span}
use Rattle.swc_ast.specs.declared.expressions.Expr.{Expr}
use Rattle.swc_ast.specs.Parts.{list_trees}
use Rattle.swc_ast.specs.Scope.{joined}
use Rattle.swc_ast.specs.Views.{expr_tree}
use Rattle.swc_utils.specs.Effects.{preserve}
use Rattle.swc_utils.specs.Pure.{pure}
use Rattle.swc_utils.proofs.Chains.{pushed}
use Rattle.pass_rules.specs.Defaults.{is_void}
use Rattle.branch_rules.specs.Ignored.{IgnoresAll}
use Rattle.branch_rules.specs.Expressions.{ExpressionStep, front, same_arms, always_void}
use Rattle.branch_expressions.specs.Left.{Adds}
use Rattle.branch_expressions.proofs.Adding.{same_adds}

pub arms_step : (mark : ℕ) (ss : List Span) (t u v x : Tree) (e : Expr) → pure mark t ≡ true → always_void mark u ≡ true → is_void mark v ≡ true → expr_tree e ≡ u → ExpressionStep mark (node tree.Cond ss (t ⊳ u ⊳ v ⊳ ε)) (expr_tree e)
arms_step mark ss t u v x e p h k is = subst (ExpressionStep mark (node tree.Cond ss (t ⊳ u ⊳ v ⊳ ε))) (sym is) (same_arms ss t u v p h k)

module _ (mark : ℕ) (ss rs : List Span) (xs ys a b : List Expr) (x : Expr) (c : Bool) (is : ys ≡ xs ++ x ∷ []) (none : a ≡ []) (h : Adds mark (list_trees expr_tree xs) a b c) where
  added_is : list_trees expr_tree b ≡ h.added
  added_is = h.is ∙ ap (λ zs. joined (list_trees expr_tree zs) h.added) none

  step : c ≡ true → ExpressionStep mark (node tree.Seq ss (list_trees expr_tree ys)) (preserve rs (list_trees expr_tree b) (expr_tree x))
  step changed =
      subst (λ ts. ExpressionStep mark (node tree.Seq ss ts) (preserve rs (list_trees expr_tree b) (expr_tree x))) (sym (ap (list_trees expr_tree) is ∙ pushed expr_tree xs x))
      (subst (λ us. ExpressionStep mark (node tree.Seq ss (joined (list_trees expr_tree xs) (expr_tree x ⊳ ε))) (preserve rs us (expr_tree x))) (sym added_is)
      (front ss rs (list_trees expr_tree xs) h.added (expr_tree x) (subst (λ d. IgnoresAll mark d (list_trees expr_tree xs) h.added) changed h.ignores)))

preserved : (rs : List Span) (b z : List Expr) (x : Expr) → (length b ≡ 0 → ⊥) → z ≡ b ++ x ∷ [] → preserve rs (list_trees expr_tree b) (expr_tree x) ≡ node tree.Seq rs (list_trees expr_tree z)
preserved rs [] z x h is = absurd (h refl)
preserved rs (y ∷ b) z x h is = ap (node tree.Seq rs) (sym (ap (list_trees expr_tree) is ∙ pushed expr_tree (y ∷ b) x))

nothing : (b : List Expr) → length b ≡ 0 → b ≡ []
nothing [] h = refl
nothing (y ∷ b) h = absurd (omega (arith, h))

pub front_step : (mark : ℕ) (ss rs : List Span) (xs ys a b z : List Expr) (x e : Expr) (c : Bool) → ys ≡ xs ++ x ∷ [] → a ≡ [] → Adds mark (list_trees expr_tree xs) a b c → c ≡ true → (length b ≡ 0 → ⊥) → z ≡ b ++ x ∷ [] → expr_tree e ≡ node tree.Seq rs (list_trees expr_tree z) → ExpressionStep mark (node tree.Seq ss (list_trees expr_tree ys)) (expr_tree e)
front_step mark ss rs xs ys a b z x e c is none h changed some at to = subst (ExpressionStep mark (node tree.Seq ss (list_trees expr_tree ys))) (preserved rs b z x some at ∙ sym to) (step mark ss rs xs ys a b x c is none h changed)

pub front_alone : (mark : ℕ) (ss : List Span) (xs ys a b : List Expr) (x : Expr) (c : Bool) → ys ≡ xs ++ x ∷ [] → a ≡ [] → Adds mark (list_trees expr_tree xs) a b c → c ≡ true → length b ≡ 0 → ExpressionStep mark (node tree.Seq ss (list_trees expr_tree ys)) (expr_tree x)
front_alone mark ss xs ys a b x c is none h changed empty = subst (ExpressionStep mark (node tree.Seq ss (list_trees expr_tree ys))) (ap (λ zs. preserve ss (list_trees expr_tree zs) (expr_tree x)) (nothing b empty)) (step mark ss ss xs ys a b x c is none h changed)

pub front_same : (mark : ℕ) (ss : List Span) (xs ys a b z : List Expr) (x : Expr) (c : Bool) → ys ≡ xs ++ x ∷ [] → a ≡ [] → Adds mark (list_trees expr_tree xs) a b c → c ≡ false → z ≡ b ++ x ∷ [] → node tree.Seq ss (list_trees expr_tree z) ≡ node tree.Seq ss (list_trees expr_tree ys)
front_same mark ss xs ys a b z x c is none h same at = ap (node tree.Seq ss) (ap (list_trees expr_tree) at ∙ pushed expr_tree b x ∙ ap (λ ts. joined ts (expr_tree x ⊳ ε)) (same_adds mark (list_trees expr_tree xs) b c same (subst (λ ws. Adds mark (list_trees expr_tree xs) ws b c) none h)) ∙ sym (ap (list_trees expr_tree) is ∙ pushed expr_tree xs x))

pub pure_of : (b p : Bool) → b ≡ not p → b ≡ false → p ≡ true
pure_of b true h k = refl
pure_of b false h k = cc
