-- How deep `(0, e)` is: one more than the expression.
use Rattle.std.proofs.Common.{◌≡◌, ◌≤◌, ◌+◌, ℕ, max, [], ◌∷◌, sym, ap, ◌∙◌, arith}
use denote.Param.Weighed.{most}
use Rattle.swc_ast.specs.declared.declarations.Decl.TheOpen as Open
use Rattle.swc_ast.specs.declared.declarations.Decl.TheViews.{roll-Expr, out-roll-Expr}
use Rattle.swc_ast.specs.declared.expressions.Expr.{Expr, size-Expr, size_is-Expr}
use Rattle.swc_ast.specs.declared.expressions.Expr.TheVariants as in_expr
use Rattle.swc_ast.specs.declared.expressions.SeqExpr.{SeqExpr}
use Rattle.swc_ast.specs.declared.literals.Lit.{Lit}

lit_size : (l : Lit) → size-Expr (in_expr.Lit l) ≡ 1
lit_size l = ap size-Expr (sym (in_expr.rolls-Lit l)) ∙ (rw (out-roll-Expr (Open.Lit l)) at (size_is-Expr (roll-Expr (Open.Lit l)))) ∙ omega arith

above : (a w : ℕ) → a ≡ w + 1 → 1 ≤ a
above a w h = omega (arith, h)

seq_size : (n : SeqExpr Expr) → size-Expr (in_expr.Seq n) ≡ max (max 0 (max (most size-Expr n.exprs.items) 0)) 0 + 1
seq_size n = ap size-Expr (sym (in_expr.rolls-Seq n)) ∙ (rw (out-roll-Expr (Open.Seq n)) at (size_is-Expr (roll-Expr (Open.Seq n))))

pub shield_depth : (e : Expr) (n : SeqExpr Expr) (l : Lit) → n.exprs.items ≡ in_expr.Lit l ∷ e ∷ [] → size-Expr (in_expr.Seq n) ≤ size-Expr e + 1
shield_depth e n l items = omega (arith, seq_size n, ap (most size-Expr) items, lit_size l, above _ _ (size_is-Expr e))
