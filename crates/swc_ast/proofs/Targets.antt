-- What may stand on the left of an assignment, by its variant.
use Rattle.std.proofs.Common.{◌≡◌, refl, sym, ap, ◌∙◌, true, false, ◌==◌}
use Rattle.swc_ast.specs.Tree as tree
use Rattle.swc_ast.specs.Tree.{Tree, node, label_of}
use Rattle.swc_ast.specs.Expressions.{is_target, member_tree, member_node}
use Rattle.swc_ast.specs.Parts.{ident_tree}
use Rattle.swc_ast.specs.SameLaws.{impossible}
use Rattle.swc_ast.specs.Views.{expr_tree}
use Rattle.swc_ast.proofs.ApartExpressions.{ExprForm, expr_form, expr_at}
use Rattle.swc_ast.proofs.Places.{at_expr-Ident, at_expr-Member}
use Rattle.swc_ast.specs.declared.Span.{Span}
use Rattle.swc_ast.specs.declared.names.Ident.{Ident}
use Rattle.swc_ast.specs.declared.declarations.Decl.TheOpen as Open
use Rattle.swc_ast.specs.declared.declarations.Decl.TheViews.{roll-Expr, out-Expr, roll-out-Expr}
use Rattle.swc_ast.specs.declared.expressions.Expr.{Expr}
use Rattle.swc_ast.specs.declared.expressions.Expr.TheVariants as in_expr
use Rattle.swc_ast.specs.declared.expressions.MemberExpr.{MemberExpr}
use Rattle.swc_ast.specs.declared.expressions.MemberProp.{MemberProp}
use Rattle.swc_ast.specs.declared.expressions.MemberProp.TheVariants as prop

member : (s : Span) (o : Expr) (p : MemberProp Expr) → is_target (member_node expr_tree s o p) ≡ true
member s o (prop.Ident i) = refl
member s o (prop.Computed c) = refl

pub member_target : (e : Expr) (n : MemberExpr Expr) → e ≡ in_expr.Member n → is_target (expr_tree e) ≡ true
member_target e n is = ap is_target (at_expr-Member e n is) ∙ member n.span n.obj.value n.prop

pub name_target : (e : Expr) (n : Ident) → e ≡ in_expr.Ident n → is_target (expr_tree e) ≡ true
name_target e n is = ap is_target (at_expr-Ident e n is)

no_target : (t : Tree) → (9 == expr_form (label_of t)) ≡ false → (14 == expr_form (label_of t)) ≡ false → is_target t ≡ false
no_target (node (tree.Dot k) ss cs) p q = impossible (sym p)
no_target (node tree.Index ss cs) p q = impossible (sym p)
no_target (node (tree.Read x) ss cs) p q = impossible (sym q)
no_target (node _ ss cs) p q = refl

-- another expression is none
pub other_target : (e : Expr) → ((y : Ident) → e ≡ in_expr.Ident y → ⊥) → ((y : MemberExpr Expr) → e ≡ in_expr.Member y → ⊥) → is_target (expr_tree e) ≡ false
other_target e no_name no_member = by (out-Expr e) (roll-out-Expr e)
  where
    by : (o : ExprForm) → roll-Expr o ≡ e → is_target (expr_tree e) ≡ false
    by (Open.Member n) r = absurd (no_member n (sym r ∙ in_expr.rolls-Member n))
    by (Open.Ident n) r = absurd (no_name n (sym r ∙ in_expr.rolls-Ident n))
    by o r = ap (λ x. is_target (expr_tree x)) (sym r) ∙ no_target (expr_tree (roll-Expr o)) (ap (λ n. 9 == n) (expr_at o)) (ap (λ n. 14 == n) (expr_at o))

pub name_read : (e : Expr) (n : Ident) → e ≡ in_expr.Ident n → expr_tree e ≡ ident_tree n
name_read = at_expr-Ident

pub member_read : (e : Expr) (n : MemberExpr Expr) → e ≡ in_expr.Member n → expr_tree e ≡ member_tree expr_tree n
member_read = at_expr-Member
