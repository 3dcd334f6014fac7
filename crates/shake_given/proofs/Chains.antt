-- The tree of an expression has an expression's label_of, and a chain ends at what is no name and no member.
use Rattle.std.proofs.Common.{◌≡◌, ℕ, ◌≤◌, true, false, ◌&&◌, ◌==◌, subst, sym, ap, arith, refl, ◌∙◌}
use Rattle.std.proofs.lemmas.Bool.{true≢false}
use Rattle.swc_ast.specs.declared.declarations.Decl.TheOpen as Open
use Rattle.swc_ast.specs.declared.declarations.Decl.TheViews.{roll-Expr, out-Expr, roll-out-Expr}
use Rattle.swc_ast.specs.declared.expressions.Expr.{Expr}
use Rattle.swc_ast.specs.Tree.{Tree, node, Label, StrLit, Read, Dot, Index, label_of, expr}
use Rattle.swc_ast.specs.Views.{expr_tree}
use Rattle.swc_ast.proofs.ApartExpressions.{ExprForm, expr_form, expr_number, expr_at}
use Rattle.swc_ast.specs.Labels.{is_expression}
use Rattle.swc_ast.specs.Expressions.{member_node, member_tree}
use Rattle.swc_ast.specs.declared.Span.{Span}
use Rattle.swc_ast.specs.declared.expressions.MemberExpr.{MemberExpr}
use Rattle.swc_ast.specs.declared.expressions.MemberProp.{MemberProp}
use Rattle.swc_ast.specs.declared.expressions.MemberProp.TheVariants as prop
use Rattle.swc_ast.specs.declared.expressions.Expr.TheVariants as in_expr
use Rattle.shake_given.specs.Reads.{is_chain, is_text}
use Rattle.shake_given.specs.Twice.{is_written}

numbered : (o : ExprForm) → 1 ≤ expr_number o
numbered (Open.This n) = omega arith
numbered _ = omega arith

formed : (l : Label) → 1 ≤ expr_form l → is_expression l ≡ true
formed (expr e) h = refl
formed _ h = absurd (omega (arith, h))

pub is_an_expression : (e : Expr) → is_expression (label_of (expr_tree e)) ≡ true
is_an_expression e = subst (λ x. is_expression (label_of (expr_tree x)) ≡ true) (roll-out-Expr e) (formed _ (subst (λ n. 1 ≤ n) (sym (expr_at (out-Expr e))) (numbered (out-Expr e))))

-- a chain goes on in the object of a member whose key is written out
chain_by : (s : Span) (o : Expr) (p : MemberProp Expr) → is_chain (member_node expr_tree s o p) ≡ (is_written p && is_chain (expr_tree o))
chain_by s o (prop.Ident n) = refl
chain_by s o (prop.Computed n) = refl

pub chain_member : (n : MemberExpr Expr) → is_chain (member_tree expr_tree n) ≡ (is_written n.prop && is_chain (expr_tree n.obj.value))
chain_member n = chain_by n.span n.obj.value n.prop

form_of : (p : ExprForm) (e : Expr) → roll-Expr p ≡ e → expr_form (label_of (expr_tree e)) ≡ expr_number p
form_of p e r = ap (λ x. expr_form (label_of (expr_tree x))) (sym r) ∙ expr_at p

no_chain : (t : Tree) (n : ℕ) → expr_form (label_of t) ≡ n → (n == 9) ≡ false → (n == 14) ≡ false → false ≡ is_chain t
no_chain (node (Dot k) ss cs) n h j i = absurd (true≢false (ap (λ m. m == 9) h ∙ j))
no_chain (node Index ss cs) n h j i = absurd (true≢false (ap (λ m. m == 9) h ∙ j))
no_chain (node (Read x) ss cs) n h j i = absurd (true≢false (ap (λ m. m == 14) h ∙ i))
no_chain (node l ss cs) n h j i = refl

-- neither a member nor a name
pub other_chain : (e : Expr) → ((n : _) → e ≡ in_expr.Member n → ⊥) → ((n : _) → e ≡ in_expr.Ident n → ⊥) → false ≡ is_chain (expr_tree e)
other_chain e f g = by (out-Expr e) (roll-out-Expr e)
  where
    by : (p : ExprForm) → roll-Expr p ≡ e → false ≡ is_chain (expr_tree e)
    by (Open.Member n) r = absurd (f n (sym r ∙ in_expr.rolls-Member n))
    by (Open.Ident n) r = absurd (g n (sym r ∙ in_expr.rolls-Ident n))
    by p r = no_chain (expr_tree e) (expr_number p) (form_of p e r) refl refl

no_text : (t : Tree) (n : ℕ) → expr_form (label_of t) ≡ n → (n == 15) ≡ false → false ≡ is_text t
no_text (node (StrLit k) ss cs) n h j = absurd (true≢false (ap (λ m. m == 15) h ∙ j))
no_text (node l ss cs) n h j = refl

-- no literal
pub other_text : (e : Expr) → ((n : _) → e ≡ in_expr.Lit n → ⊥) → false ≡ is_text (expr_tree e)
other_text e f = by (out-Expr e) (roll-out-Expr e)
  where
    by : (p : ExprForm) → roll-Expr p ≡ e → false ≡ is_text (expr_tree e)
    by (Open.Lit n) r = absurd (f n (sym r ∙ in_expr.rolls-Lit n))
    by p r = no_text (expr_tree e) (expr_number p) (form_of p e r) refl
