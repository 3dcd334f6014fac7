-- The trees of expressions declare nothing.
use Rattle.std.proofs.Common.{◌≡◌, ◌≤◌, true, sym, subst, arith, refl}
use Rattle.swc_ast.specs.declared.declarations.Decl.TheOpen as Open
use Rattle.swc_ast.specs.declared.declarations.Decl.TheViews.{out-Expr, roll-out-Expr}
use Rattle.swc_ast.specs.declared.expressions.Expr.{Expr}
use Rattle.swc_ast.specs.Tree.{Label, label_of, expr}
use Rattle.swc_ast.specs.Views.{expr_tree}
use Rattle.swc_ast.proofs.ApartExpressions.{ExprForm, expr_form, expr_number, expr_at}
use Rattle.meaning_proofs.proofs.Quiet.{declares_nothing}

numbered : (o : ExprForm) → 1 ≤ expr_number o
numbered (Open.This n) = omega arith
numbered _ = omega arith

silent : (l : Label) → 1 ≤ expr_form l → declares_nothing l ≡ true
silent (expr e) h = refl
silent _ h = absurd (omega (arith, h))

-- an expression declares nothing
pub expr_declares_nothing : (e : Expr) → declares_nothing (label_of (expr_tree e)) ≡ true
expr_declares_nothing e = subst (λ x. declares_nothing (label_of (expr_tree x)) ≡ true) (roll-out-Expr e) (silent _ (subst (λ n. 1 ≤ n) (sym (expr_at (out-Expr e))) (numbered (out-Expr e))))
