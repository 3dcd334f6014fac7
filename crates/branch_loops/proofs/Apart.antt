-- What the trees of expressions that are no truth literal are not.
use Rattle.std.proofs.Common.{◌≡◌, ◌≤◌, ◌<◌, ℕ, ℤ, pos, zero, false, refl, sym, ap, ◌∙◌, arith}
use Rattle.swc_ast.specs.declared.expressions.Expr.{Expr}
use Rattle.swc_ast.specs.declared.expressions.Expr.TheVariants as in_expr
use Rattle.swc_ast.specs.declared.expressions.Invalid.{Invalid as InvalidExpr}
use Rattle.swc_ast.specs.declared.literals.Lit.{Lit}
use Rattle.swc_ast.specs.declared.declarations.Decl.TheOpen as Open
use Rattle.swc_ast.specs.declared.declarations.Decl.TheViews.{roll-Expr, out-Expr, roll-out-Expr}
use Rattle.swc_ast.specs.Tree.{Label, BoolLit, NumLit, Absent, Param, Try, Tree, node, Forest, label_of}
use Rattle.swc_ast.specs.Views.{expr_tree}
use Rattle.swc_ast.specs.Weight.{number_weight, own_weight, weight, is_truth_or_absent}
use Rattle.swc_ast.proofs.ApartExpressions.{ExprForm, expr_form, expr_number, expr_at}

other_form : (t : Tree) (k : ℕ) → expr_form (label_of t) ≡ k → 1 ≤ k → (k ≡ 15 → ⊥) → is_truth_or_absent t ≡ false
other_form (node (BoolLit b) ss cs) k e h n = absurd (n (sym e))
other_form (node Absent ss cs) k e h n = absurd (omega (arith, e, h))
other_form (node _ ss cs) k e h n = refl

form_of : {e : Expr} (o : ExprForm) → roll-Expr o ≡ e → expr_form (label_of (expr_tree e)) ≡ expr_number o
form_of o r = ap (λ x. expr_form (label_of (expr_tree x))) (sym r) ∙ expr_at o

pub no_literal : (e : Expr) → ((n : Lit) → e ≡ in_expr.Lit n → ⊥) → is_truth_or_absent (expr_tree e) ≡ false
no_literal e none = by (out-Expr e) (roll-out-Expr e)
  where
    by : (o : ExprForm) → roll-Expr o ≡ e → is_truth_or_absent (expr_tree e) ≡ false
    by (Open.Lit n) r = absurd (none n (sym r ∙ in_expr.rolls-Lit n))
    by o r = other_form (expr_tree e) (expr_number o) (form_of o r) (omega arith) (λ h. omega (arith, h))

number_some : (z : ℤ) → 1 ≤ number_weight z
number_some (pos zero) = omega arith
number_some _ = omega arith

own_some : (l : Label) (cs : Forest) → 1 ≤ expr_form l → expr_form l ≤ 17 → 1 ≤ own_weight l cs
unfolding own_weight
own_some (NumLit z) cs h k = number_some z
own_some (Param x) cs h k = absurd (omega (arith, h))
own_some (Try o) cs h k = absurd (omega (arith, h))
own_some l cs h k = omega (arith, h, k)

formed_weight : (t : Tree) → 1 ≤ expr_form (label_of t) → expr_form (label_of t) ≤ 17 → 0 < weight t
formed_weight (node l ss cs) h k = omega (arith, own_some l cs h k)

pub some_weight : (e : Expr) → ((n : InvalidExpr) → e ≡ in_expr.Invalid n → ⊥) → 0 < weight (expr_tree e)
some_weight e none = by (out-Expr e) (roll-out-Expr e)
  where
    by : (o : ExprForm) → roll-Expr o ≡ e → 0 < weight (expr_tree e)
    by (Open.Invalid n) r = absurd (none n (sym r ∙ in_expr.rolls-Invalid n))
    by o r = formed_weight (expr_tree e) (omega (arith, form_of o r)) (omega (arith, form_of o r))
