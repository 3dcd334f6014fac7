-- What is read of an expression, by its form.
use Rattle.std.proofs.Common.{◌≡◌, ℕ, false, ◌==◌, Option, Some, None, option_map, option_copied, refl, sym, ap, ap₂, ◌∙◌}
use Rattle.std.proofs.lemmas.Bool.{true≢false}
use Rattle.std.specs.Borrow.{Bor}
use Rattle.swc_ast.specs.Expressions.{member_node, member_tree}
use Rattle.swc_ast.specs.Tree as tree
use Rattle.swc_ast.specs.Tree.{Text, Name, Tree, node, label_of}
use Rattle.swc_ast.specs.Views.{expr_tree}
use Rattle.swc_ast.specs.declared.Span.{Span}
use Rattle.swc_ast.specs.declared.declarations.Decl.TheOpen as Open
use Rattle.swc_ast.specs.declared.declarations.Decl.TheViews.{roll-Expr, out-Expr, roll-out-Expr}
use Rattle.swc_ast.specs.declared.expressions.Expr.{Expr}
use Rattle.swc_ast.specs.declared.expressions.Expr.TheVariants as in_expr
use Rattle.swc_ast.specs.declared.expressions.MemberExpr.{MemberExpr}
use Rattle.swc_ast.specs.declared.expressions.MemberProp.{MemberProp}
use Rattle.swc_ast.specs.declared.expressions.MemberProp.TheVariants as prop
use Rattle.swc_ast.proofs.ApartExpressions.{expr_form, ExprForm, expr_number, expr_at}
use Rattle.const_pass.specs.Rules.{name_read, text_read, key_text, member_of, value_at, constant, member, value}
use Rattle.const_pass.specs.declared.rules.Constants.{Constants}

-- a copy of a value that is lent
pub copied : (o : Option (Bor Expr)) (p : Option Expr) → option_copied o ≡ p → option_map (λ v. expr_tree v.now) o ≡ option_map expr_tree p
copied None p e = ap (option_map expr_tree) e
copied (Some v) p e = ap (option_map expr_tree) e

form_of : (p : ExprForm) (e : Expr) → roll-Expr p ≡ e → expr_form (label_of (expr_tree e)) ≡ expr_number p
form_of p e r = ap (λ x. expr_form (label_of (expr_tree x))) (sym r) ∙ expr_at p

-- neither a name nor a text nor a member

no_name : (t : Tree) (n : ℕ) → expr_form (label_of t) ≡ n → (n == 14) ≡ false → None ≡ name_read t
no_name (node (tree.Read x) ss cs) n h k = absurd (true≢false (ap (λ m. m == 14) h ∙ k))
no_name (node l ss cs) n h k = refl

pub other_name : (e : Expr) → ((n : _) → e ≡ in_expr.Ident n → ⊥) → None ≡ name_read (expr_tree e)
other_name e g = by (out-Expr e) (roll-out-Expr e)
  where
    by : (p : ExprForm) → roll-Expr p ≡ e → None ≡ name_read (expr_tree e)
    by (Open.Ident n) r = absurd (g n (sym r ∙ in_expr.rolls-Ident n))
    by p r = no_name (expr_tree e) (expr_number p) (form_of p e r) refl

no_text : (t : Tree) (n : ℕ) → expr_form (label_of t) ≡ n → (n == 15) ≡ false → None ≡ text_read t
no_text (node (tree.StrLit x) ss cs) n h k = absurd (true≢false (ap (λ m. m == 15) h ∙ k))
no_text (node l ss cs) n h k = refl

pub other_text : (e : Expr) → ((n : _) → e ≡ in_expr.Lit n → ⊥) → None ≡ text_read (expr_tree e)
other_text e g = by (out-Expr e) (roll-out-Expr e)
  where
    by : (p : ExprForm) → roll-Expr p ≡ e → None ≡ text_read (expr_tree e)
    by (Open.Lit n) r = absurd (g n (sym r ∙ in_expr.rolls-Lit n))
    by p r = no_text (expr_tree e) (expr_number p) (form_of p e r) refl

module _ (c : Name → Option Tree) (m : Name → Text → Option Tree) where
  no_value : (t : Tree) (n : ℕ) → expr_form (label_of t) ≡ n → (n == 9) ≡ false → (n == 14) ≡ false → None ≡ value_at c m t
  no_value (node (tree.Dot k) ss cs) n h j k' = absurd (true≢false (ap (λ m. m == 9) h ∙ j))
  no_value (node tree.Index ss cs) n h j k' = absurd (true≢false (ap (λ m. m == 9) h ∙ j))
  no_value (node (tree.Read x) ss cs) n h j k' = absurd (true≢false (ap (λ m. m == 14) h ∙ k'))
  no_value (node l ss cs) n h j k' = refl

  pub other_value : (e : Expr) → ((n : _) → e ≡ in_expr.Member n → ⊥) → ((n : _) → e ≡ in_expr.Ident n → ⊥) → None ≡ value_at c m (expr_tree e)
  other_value e f g = by (out-Expr e) (roll-out-Expr e)
    where
      by : (p : ExprForm) → roll-Expr p ≡ e → None ≡ value_at c m (expr_tree e)
      by (Open.Member n) r = absurd (f n (sym r ∙ in_expr.rolls-Member n))
      by (Open.Ident n) r = absurd (g n (sym r ∙ in_expr.rolls-Ident n))
      by p r = no_value (expr_tree e) (expr_number p) (form_of p e r) refl refl

-- members

module _ (r : Constants) where
  of_prop : (s : Span) (o : Expr) (p : MemberProp Expr) → member_of (constant r) (member r) (name_read (expr_tree o)) (key_text p) ≡ value r (member_node expr_tree s o p)
  of_prop s o (prop.Ident w) = refl
  of_prop s o (prop.Computed k) = refl

  unkeyed : (o : Option Name) → None ≡ member_of (constant r) (member r) o None
  unkeyed None = refl
  unkeyed (Some x) = refl

  pub read_member : (n : MemberExpr Expr) (x : Name) (k : Text) (v : Option Tree) → Some x ≡ name_read (expr_tree n.obj.value) → Some k ≡ key_text n.prop → v ≡ member r x k → v ≡ value r (member_tree expr_tree n)
  read_member n x k v e f h = h ∙ ap₂ (member_of (constant r) (member r)) e f ∙ of_prop n.span n.obj.value n.prop

  pub no_object : (n : MemberExpr Expr) → None ≡ name_read (expr_tree n.obj.value) → None ≡ value r (member_tree expr_tree n)
  no_object n e = ap (λ o. member_of (constant r) (member r) o (key_text n.prop)) e ∙ of_prop n.span n.obj.value n.prop

  pub no_key : (n : MemberExpr Expr) → None ≡ key_text n.prop → None ≡ value r (member_tree expr_tree n)
  no_key n e = unkeyed (name_read (expr_tree n.obj.value)) ∙ ap (member_of (constant r) (member r) (name_read (expr_tree n.obj.value))) e ∙ of_prop n.span n.obj.value n.prop
