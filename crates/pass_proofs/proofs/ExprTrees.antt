-- The tree of an expression has an expression's label.
use Rattle.std.proofs.Common.{◌≡◌, ◌≤◌, true, subst, sym, arith, refl}
use Rattle.swc_ast.specs.declared.declarations.Decl.TheOpen as Open
use Rattle.swc_ast.specs.declared.declarations.Decl.TheViews.{out-Expr, roll-out-Expr}
use Rattle.swc_ast.specs.declared.expressions.Expr.{Expr}
use Rattle.swc_ast.specs.Tree.{Label, label_of, expr}
use Rattle.swc_ast.specs.Views.{expr_tree}
use Rattle.swc_ast.proofs.ApartExpressions.{ExprForm, expr_form, expr_number, expr_at}
use Rattle.swc_ast.specs.Labels.{is_expression}

numbered : (o : ExprForm) → 1 ≤ expr_number o
numbered (Open.This n) = omega arith
numbered _ = omega arith

formed : (l : Label) → 1 ≤ expr_form l → is_expression l ≡ true
formed (expr e) h = refl
formed _ h = absurd (omega (arith, h))

pub is_an_expression : (e : Expr) → is_expression (label_of (expr_tree e)) ≡ true
is_an_expression e = subst (λ x. is_expression (label_of (expr_tree x)) ≡ true) (roll-out-Expr e) (formed _ (subst (λ n. 1 ≤ n) (sym (expr_at (out-Expr e))) (numbered (out-Expr e))))
