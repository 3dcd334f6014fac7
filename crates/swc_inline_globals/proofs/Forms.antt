-- What a view of an expression is not, by the expression's form.
use Rattle.std.proofs.Common.{◌≡◌, ℕ, Bool, true, false, ◌==◌, refl, sym, ap, ◌∙◌}
use Rattle.std.proofs.lemmas.Bool.{true≢false}
use Rattle.swc_ast.specs.Tree as tree
use Rattle.swc_ast.specs.Tree.{Tree, node, label_of}
use Rattle.swc_ast.specs.Views.{expr_tree}
use Rattle.swc_ast.specs.declared.declarations.Decl.TheOpen as Open
use Rattle.swc_ast.specs.declared.declarations.Decl.TheViews.{roll-Expr, out-Expr, roll-out-Expr}
use Rattle.swc_ast.specs.declared.expressions.Expr.{Expr}
use Rattle.swc_ast.specs.declared.expressions.Expr.TheVariants as in_expr
use Rattle.swc_ast.proofs.ApartExpressions.{expr_form, ExprForm, expr_number, expr_at}

form_of : (p : ExprForm) (e : Expr) → roll-Expr p ≡ e → expr_form (label_of (expr_tree e)) ≡ expr_number p
form_of p e r = ap (λ x. expr_form (label_of (expr_tree x))) (sym r) ∙ expr_at p

-- a name
abbrev pub is_name : Tree → Bool
is_name (node (tree.Read x) ss cs) = true
is_name t = false

no_name : (t : Tree) (n : ℕ) → expr_form (label_of t) ≡ n → (n == 14) ≡ false → is_name t ≡ false
no_name (node (tree.Read x) ss cs) n h j = absurd (true≢false (ap (λ m. m == 14) h ∙ j))
no_name (node l ss cs) n h j = refl

pub other_name : (e : Expr) → ((n : _) → e ≡ in_expr.Ident n → ⊥) → is_name (expr_tree e) ≡ false
other_name e g = by (out-Expr e) (roll-out-Expr e)
  where
    by : (p : ExprForm) → roll-Expr p ≡ e → is_name (expr_tree e) ≡ false
    by (Open.Ident n) r = absurd (g n (sym r ∙ in_expr.rolls-Ident n))
    by p r = no_name (expr_tree e) (expr_number p) (form_of p e r) refl

-- `typeof` of a name
abbrev pub is_type : Tree → Bool
is_type (node (tree.TypeOfName x) ss cs) = true
is_type t = false

no_type : (t : Tree) (n : ℕ) → expr_form (label_of t) ≡ n → (n == 5) ≡ false → is_type t ≡ false
no_type (node (tree.TypeOfName x) ss cs) n h j = absurd (true≢false (ap (λ m. m == 5) h ∙ j))
no_type (node l ss cs) n h j = refl

-- no operator stands in front
pub other_operator : (e : Expr) → ((n : _) → e ≡ in_expr.Unary n → ⊥) → is_type (expr_tree e) ≡ false
other_operator e f = by (out-Expr e) (roll-out-Expr e)
  where
    by : (p : ExprForm) → roll-Expr p ≡ e → is_type (expr_tree e) ≡ false
    by (Open.Unary n) r = absurd (f n (sym r ∙ in_expr.rolls-Unary n))
    by p r = no_type (expr_tree e) (expr_number p) (form_of p e r) refl
