-- What a view of an expression is not, by the expression's form.
use Rattle.std.proofs.Common.{◌≡◌, ◌<◌, ◌≤◌, ℕ, false, refl, sym, ap, ◌∙◌, ◌==◌, List, length, ◌∷◌, [], arith}
use Rattle.std.proofs.lemmas.Bool.{true≢false}
use Rattle.swc_ast.specs.Parts.{list_trees}
use Rattle.swc_ast.specs.Tree as tree
use Rattle.swc_ast.specs.Tree.{Tree, node, label_of}
use Rattle.swc_ast.specs.Views.{expr_tree}
use Rattle.swc_ast.specs.declared.declarations.Decl.TheOpen as Open
use Rattle.swc_ast.specs.declared.declarations.Decl.TheViews.{roll-Expr, out-Expr, roll-out-Expr}
use Rattle.swc_ast.specs.declared.expressions.Expr.{Expr}
use Rattle.swc_ast.specs.declared.expressions.Expr.TheVariants as in_expr
use Rattle.swc_ast.proofs.ApartExpressions.{expr_form, ExprForm, expr_number, expr_at}
use Rattle.tree_walk.specs.declared.rules.Place.{Place}
use Rattle.swc_branch.specs.Places.{is_light, are_cramped, is_cramped}

form_of : (p : ExprForm) (e : Expr) → roll-Expr p ≡ e → expr_form (label_of (expr_tree e)) ≡ expr_number p
form_of p e r = ap (λ x. expr_form (label_of (expr_tree x))) (sym r) ∙ expr_at p

-- nothing is light but literals and sequences

no_light : (t : Tree) (n : ℕ) → expr_form (label_of t) ≡ n → (n == 13) ≡ false → (n == 15) ≡ false → false ≡ is_light t
no_light (node (tree.NumLit z) ss cs) n h k l = absurd (true≢false (ap (λ m. m == 15) h ∙ l))
no_light (node tree.Seq ss cs) n h k l = absurd (true≢false (ap (λ m. m == 13) h ∙ k))
no_light (node l ss cs) n h k i = refl

pub other_light : (e : Expr) → ((n : _) → e ≡ in_expr.Lit n → ⊥) → ((n : _) → e ≡ in_expr.Seq n → ⊥) → false ≡ is_light (expr_tree e)
other_light e no_lit no_seq = by (out-Expr e) (roll-out-Expr e)
  where
    by : (p : ExprForm) → roll-Expr p ≡ e → false ≡ is_light (expr_tree e)
    by (Open.Lit n) r = absurd (no_lit n (sym r ∙ in_expr.rolls-Lit n))
    by (Open.Seq n) r = absurd (no_seq n (sym r ∙ in_expr.rolls-Seq n))
    by p r = no_light (expr_tree e) (expr_number p) (form_of p e r) refl refl

-- nothing is cramped but a sequence

no_cramped : (q : Place) (t : Tree) (n : ℕ) → expr_form (label_of t) ≡ n → (n == 13) ≡ false → false ≡ is_cramped q t
no_cramped q (node tree.Seq ss cs) n h k = absurd (true≢false (ap (λ m. m == 13) h ∙ k))
no_cramped q (node l ss cs) n h k = refl

pub other_cramped : (q : Place) (e : Expr) → ((n : _) → e ≡ in_expr.Seq n → ⊥) → false ≡ is_cramped q (expr_tree e)
other_cramped q e others = by (out-Expr e) (roll-out-Expr e)
  where
    by : (p : ExprForm) → roll-Expr p ≡ e → false ≡ is_cramped q (expr_tree e)
    by (Open.Seq n) r = absurd (others n (sym r ∙ in_expr.rolls-Seq n))
    by p r = no_cramped q (expr_tree e) (expr_number p) (form_of p e r) refl

-- of two items alone
pub short_list : (p : Place) (xs : List Expr) → length xs < 2 → false ≡ are_cramped p (list_trees expr_tree xs)
short_list p [] h = refl
short_list p (x ∷ []) h = refl
short_list p (x ∷ y ∷ xs) h = absurd (omega (arith, h))

pub long_list : (p : Place) (xs : List Expr) → 3 ≤ length xs → false ≡ are_cramped p (list_trees expr_tree xs)
long_list p [] h = absurd (omega (arith, h))
long_list p (x ∷ []) h = absurd (omega (arith, h))
long_list p (x ∷ y ∷ []) h = absurd (omega (arith, h))
long_list p (x ∷ y ∷ z ∷ xs) h = refl
