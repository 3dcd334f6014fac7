-- What a view of an expression is not, by the expression's form.
use Rattle.std.proofs.Common.{◌≡◌, ℕ, Bool, true, false, ◌==◌, None, refl, sym, ap, ◌∙◌}
use Rattle.std.proofs.lemmas.Bool.{true≢false}
use Rattle.swc_ast.specs.Tree as tree
use Rattle.swc_ast.specs.Tree.{Tree, node, label_of}
use Rattle.swc_ast.specs.Views.{expr_tree}
use Rattle.swc_ast.specs.declared.declarations.Decl.TheOpen as Open
use Rattle.swc_ast.specs.declared.declarations.Decl.TheViews.{roll-Expr, out-Expr, roll-out-Expr}
use Rattle.swc_ast.specs.declared.expressions.Expr.{Expr}
use Rattle.swc_ast.specs.declared.expressions.Expr.TheVariants as in_expr
use Rattle.swc_ast.proofs.ApartExpressions.{expr_form, ExprForm, expr_number, expr_at}
use Rattle.given_globals.specs.Rows.{key_of_tree, is_read}

form_of : (p : ExprForm) (e : Expr) → roll-Expr p ≡ e → expr_form (label_of (expr_tree e)) ≡ expr_number p
form_of p e r = ap (λ x. expr_form (label_of (expr_tree x))) (sym r) ∙ expr_at p

no_read : (t : Tree) (n : ℕ) → expr_form (label_of t) ≡ n → (n == 9) ≡ false → (n == 14) ≡ false → is_read t ≡ false
no_read (node (tree.Dot k) ss cs) n h j i = absurd (true≢false (ap (λ m. m == 9) h ∙ j))
no_read (node tree.Index ss cs) n h j i = absurd (true≢false (ap (λ m. m == 9) h ∙ j))
no_read (node (tree.Read x) ss cs) n h j i = absurd (true≢false (ap (λ m. m == 14) h ∙ i))
no_read (node l ss cs) n h j i = refl

-- neither a member nor a name
pub other_read : (e : Expr) → ((n : _) → e ≡ in_expr.Member n → ⊥) → ((n : _) → e ≡ in_expr.Ident n → ⊥) → is_read (expr_tree e) ≡ false
other_read e f g = by (out-Expr e) (roll-out-Expr e)
  where
    by : (p : ExprForm) → roll-Expr p ≡ e → is_read (expr_tree e) ≡ false
    by (Open.Member n) r = absurd (f n (sym r ∙ in_expr.rolls-Member n))
    by (Open.Ident n) r = absurd (g n (sym r ∙ in_expr.rolls-Ident n))
    by p r = no_read (expr_tree e) (expr_number p) (form_of p e r) refl refl

no_text : (t : Tree) (n : ℕ) → expr_form (label_of t) ≡ n → (n == 15) ≡ false → None ≡ key_of_tree t
no_text (node (tree.StrLit k) ss cs) n h j = absurd (true≢false (ap (λ m. m == 15) h ∙ j))
no_text (node l ss cs) n h j = refl

-- no literal
pub other_literal : (e : Expr) → ((n : _) → e ≡ in_expr.Lit n → ⊥) → None ≡ key_of_tree (expr_tree e)
other_literal e f = by (out-Expr e) (roll-out-Expr e)
  where
    by : (p : ExprForm) → roll-Expr p ≡ e → None ≡ key_of_tree (expr_tree e)
    by (Open.Lit n) r = absurd (f n (sym r ∙ in_expr.rolls-Lit n))
    by p r = no_text (expr_tree e) (expr_number p) (form_of p e r) refl

-- a name
abbrev pub is_name : Tree → Bool
is_name (node (tree.Read x) ss cs) = true
is_name t = false

no_name : (t : Tree) (n : ℕ) → expr_form (label_of t) ≡ n → (n == 14) ≡ false → is_name t ≡ false
no_name (node (tree.Read x) ss cs) n h j = absurd (true≢false (ap (λ m. m == 14) h ∙ j))
no_name (node l ss cs) n h j = refl

pub other_name : (e : Expr) → ((n : _) → e ≡ in_expr.Ident n → ⊥) → is_name (expr_tree e) ≡ false
other_name e g = by (out-Expr e) (roll-out-Expr e)
  where
    by : (p : ExprForm) → roll-Expr p ≡ e → is_name (expr_tree e) ≡ false
    by (Open.Ident n) r = absurd (g n (sym r ∙ in_expr.rolls-Ident n))
    by p r = no_name (expr_tree e) (expr_number p) (form_of p e r) refl

-- no member
abbrev pub is_member : Tree → Bool
is_member (node (tree.Dot k) ss cs) = true
is_member (node tree.Index ss cs) = true
is_member t = false

no_member : (t : Tree) (n : ℕ) → expr_form (label_of t) ≡ n → (n == 9) ≡ false → is_member t ≡ false
no_member (node (tree.Dot k) ss cs) n h j = absurd (true≢false (ap (λ m. m == 9) h ∙ j))
no_member (node tree.Index ss cs) n h j = absurd (true≢false (ap (λ m. m == 9) h ∙ j))
no_member (node l ss cs) n h j = refl

pub other_member : (e : Expr) → ((n : _) → e ≡ in_expr.Member n → ⊥) → is_member (expr_tree e) ≡ false
other_member e f = by (out-Expr e) (roll-out-Expr e)
  where
    by : (p : ExprForm) → roll-Expr p ≡ e → is_member (expr_tree e) ≡ false
    by (Open.Member n) r = absurd (f n (sym r ∙ in_expr.rolls-Member n))
    by p r = no_member (expr_tree e) (expr_number p) (form_of p e r) refl
