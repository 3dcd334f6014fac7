-- What the tree of an expression is not, where the expression is of another variant.
use Rattle.std.proofs.Common.{◌≡◌, ℕ, false, ◌==◌, refl, sym, ap, ◌∙◌}
use Rattle.swc_ast.specs.Tree as tree
use Rattle.swc_ast.specs.Tree.{Tree, node, label_of}
use Rattle.swc_ast.specs.Redex.{is_text}
use Rattle.swc_ast.specs.declared.literals.Lit.{Lit}
use Rattle.swc_ast.specs.SameLaws.{impossible}
use Rattle.swc_ast.specs.Views.{expr_tree}
use Rattle.swc_ast.proofs.ApartExpressions.{ExprForm, expr_form, expr_at}
use Rattle.swc_ast.specs.declared.names.Ident.{Ident}
use Rattle.swc_ast.specs.declared.declarations.Decl.TheOpen as Open
use Rattle.swc_ast.specs.declared.declarations.Decl.TheViews.{roll-Expr, out-Expr, roll-out-Expr}
use Rattle.swc_ast.specs.declared.expressions.Expr.{Expr}
use Rattle.swc_ast.specs.declared.expressions.Expr.TheVariants as in_expr
use Rattle.swc_ast.specs.declared.expressions.ArrayLit.{ArrayLit}
use Rattle.swc_ast.specs.declared.expressions.ObjectLit.{ObjectLit}
use Rattle.swc_ast.specs.declared.expressions.PropOrSpread.{PropOrSpread}
use Rattle.expr_rules.specs.Sequences.{is_bound_name}
use Rattle.expr_rules.specs.Spreads.{is_array}
use Rattle.expr_members.specs.Arrays.{is_plain_array}
use Rattle.expr_members.specs.Objects.{is_object, is_opened_object}

-- which variant an expression with a tree is
abbrev form : Tree → ℕ
form t = expr_form (label_of t)

other_than_array : (e : Expr) → ((y : ArrayLit Expr) → e ≡ in_expr.Array y → ⊥) → (2 == form (expr_tree e)) ≡ false
other_than_array e none = by (out-Expr e) (roll-out-Expr e)
  where
    by : (o : ExprForm) → roll-Expr o ≡ e → (2 == form (expr_tree e)) ≡ false
    by (Open.Array n) r = absurd (none n (sym r ∙ in_expr.rolls-Array n))
    by o r = ap (λ x. 2 == form (expr_tree x)) (sym r) ∙ ap (λ n. 2 == n) (expr_at o)

other_than_name : (e : Expr) → ((y : Ident) → e ≡ in_expr.Ident y → ⊥) → (14 == form (expr_tree e)) ≡ false
other_than_name e none = by (out-Expr e) (roll-out-Expr e)
  where
    by : (o : ExprForm) → roll-Expr o ≡ e → (14 == form (expr_tree e)) ≡ false
    by (Open.Ident n) r = absurd (none n (sym r ∙ in_expr.rolls-Ident n))
    by o r = ap (λ x. 14 == form (expr_tree x)) (sym r) ∙ ap (λ n. 14 == n) (expr_at o)

array_by_form : (t : Tree) → (2 == form t) ≡ false → is_array t ≡ false
array_by_form (node (tree.Array ks) ss ts) h = impossible (sym h)
array_by_form (node _ ss ts) h = refl

plain_array_by_form : (t : Tree) → (2 == form t) ≡ false → is_plain_array t ≡ false
plain_array_by_form (node (tree.Array ks) ss ts) h = impossible (sym h)
plain_array_by_form (node _ ss ts) h = refl

bound_name_by_form : (mark : ℕ) (t : Tree) → (14 == form t) ≡ false → is_bound_name mark t ≡ false
bound_name_by_form mark (node (tree.Read x) ss ts) h = impossible (sym h)
bound_name_by_form mark (node _ ss ts) h = refl

pub no_array : (e : Expr) → ((y : ArrayLit Expr) → e ≡ in_expr.Array y → ⊥) → is_array (expr_tree e) ≡ false
no_array e none = array_by_form (expr_tree e) (other_than_array e none)

pub no_plain_array : (e : Expr) → ((y : ArrayLit Expr) → e ≡ in_expr.Array y → ⊥) → is_plain_array (expr_tree e) ≡ false
no_plain_array e none = plain_array_by_form (expr_tree e) (other_than_array e none)

pub no_bound_name : (mark : ℕ) (e : Expr) → ((y : Ident) → e ≡ in_expr.Ident y → ⊥) → is_bound_name mark (expr_tree e) ≡ false
no_bound_name mark e none = bound_name_by_form mark (expr_tree e) (other_than_name e none)

other_than_object : (e : Expr) → ((y : ObjectLit PropOrSpread) → e ≡ in_expr.Object y → ⊥) → (3 == form (expr_tree e)) ≡ false
other_than_object e none = by (out-Expr e) (roll-out-Expr e)
  where
    by : (o : ExprForm) → roll-Expr o ≡ e → (3 == form (expr_tree e)) ≡ false
    by (Open.Object n) r = absurd (none n (sym r ∙ in_expr.rolls-Object n))
    by o r = ap (λ x. 3 == form (expr_tree x)) (sym r) ∙ ap (λ n. 3 == n) (expr_at o)

object_by_form : (t : Tree) → (3 == form t) ≡ false → is_object t ≡ false
object_by_form (node tree.Object ss ts) h = impossible (sym h)
object_by_form (node _ ss ts) h = refl

opened_object_by_form : (t : Tree) → (3 == form t) ≡ false → is_opened_object t ≡ false
opened_object_by_form (node tree.Object ss ts) h = impossible (sym h)
opened_object_by_form (node _ ss ts) h = refl

pub no_opened_object : (e : Expr) → ((y : ObjectLit PropOrSpread) → e ≡ in_expr.Object y → ⊥) → is_opened_object (expr_tree e) ≡ false
no_opened_object e none = opened_object_by_form (expr_tree e) (other_than_object e none)

pub no_object : (e : Expr) → ((y : ObjectLit PropOrSpread) → e ≡ in_expr.Object y → ⊥) → is_object (expr_tree e) ≡ false
no_object e none = object_by_form (expr_tree e) (other_than_object e none)

other_than_literal : (e : Expr) → ((y : Lit) → e ≡ in_expr.Lit y → ⊥) → (15 == form (expr_tree e)) ≡ false
other_than_literal e none = by (out-Expr e) (roll-out-Expr e)
  where
    by : (o : ExprForm) → roll-Expr o ≡ e → (15 == form (expr_tree e)) ≡ false
    by (Open.Lit n) r = absurd (none n (sym r ∙ in_expr.rolls-Lit n))
    by o r = ap (λ x. 15 == form (expr_tree x)) (sym r) ∙ ap (λ n. 15 == n) (expr_at o)

text_by_form : (t : Tree) → (15 == form t) ≡ false → is_text t ≡ false
text_by_form (node (tree.StrLit x) ss ts) h = impossible (sym h)
text_by_form (node _ ss ts) h = refl

pub no_text : (e : Expr) → ((y : Lit) → e ≡ in_expr.Lit y → ⊥) → is_text (expr_tree e) ≡ false
no_text e none = text_by_form (expr_tree e) (other_than_literal e none)
