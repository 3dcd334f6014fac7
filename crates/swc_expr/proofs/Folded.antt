-- What the folds of the forms of expressions tell of the expression.
use Rattle.std.proofs.Common.{◌≡◌, ℕ, Option, IfOk, IsNone, sym, ap, ◌∙◌, subst}
use Rattle.std.specs.declared.result.Result.{Result}
use Rattle.swc_ast.specs.Expressions.{array_tree, object_tree, bin_tree, cond_tree}
use Rattle.swc_ast.specs.Views.{expr_tree, prop_or_spread_tree}
use Rattle.swc_ast.specs.declared.errors.PassError.{PassError}
use Rattle.swc_ast.specs.declared.expressions.ArrayLit.{ArrayLit}
use Rattle.swc_ast.specs.declared.expressions.BinExpr.{BinExpr}
use Rattle.swc_ast.specs.declared.expressions.CondExpr.{CondExpr}
use Rattle.swc_ast.specs.declared.expressions.Expr.{Expr}
use Rattle.swc_ast.specs.declared.expressions.Expr.TheVariants as in_expr
use Rattle.swc_ast.specs.declared.expressions.ObjectLit.{ObjectLit}
use Rattle.swc_ast.specs.declared.expressions.PropOrSpread.{PropOrSpread}
use Rattle.swc_ast.proofs.Equations.{expr_tree-Array, expr_tree-Object, expr_tree-Bin, expr_tree-Cond}
use Rattle.expr_rules.specs.Replaced.{Replaced}
use Rattle.swc_expr.specs.Simplifies.{Rests}

pub binary_rests : (r : Result (Option Expr) PassError) (f : Expr) (n : BinExpr Expr) → f ≡ in_expr.Bin n → IfOk r (λ o. IsNone o → Rests (bin_tree expr_tree n)) → IfOk r (λ o. IsNone o → Rests (expr_tree f))
binary_rests r f n is h = subst (λ t. IfOk r (λ o. IsNone o → Rests t)) (sym (ap expr_tree is ∙ expr_tree-Bin n)) h

pub condition_rests : (r : Result (Option Expr) PassError) (f : Expr) (n : CondExpr Expr) → f ≡ in_expr.Cond n → IfOk r (λ o. IsNone o → Rests (cond_tree expr_tree n)) → IfOk r (λ o. IsNone o → Rests (expr_tree f))
condition_rests r f n is h = subst (λ t. IfOk r (λ o. IsNone o → Rests t)) (sym (ap expr_tree is ∙ expr_tree-Cond n)) h

pub array_replaced : (mark : ℕ) (e f : Expr) (n m k : ArrayLit Expr) (o : Option Expr) → e ≡ in_expr.Array n → m ≡ n → f ≡ in_expr.Array k → Replaced mark (array_tree expr_tree m) (array_tree expr_tree k) o → Replaced mark (expr_tree e) (expr_tree f) o
array_replaced mark e f n m k o is same after h = subst (λ t. Replaced mark t (expr_tree f) o) (ap (array_tree expr_tree) same ∙ sym (ap expr_tree is ∙ expr_tree-Array n)) (subst (λ u. Replaced mark (array_tree expr_tree m) u o) (sym (ap expr_tree after ∙ expr_tree-Array k)) h)

pub object_replaced : (mark : ℕ) (e f : Expr) (n m k : ObjectLit PropOrSpread) (o : Option Expr) → e ≡ in_expr.Object n → m ≡ n → f ≡ in_expr.Object k → Replaced mark (object_tree prop_or_spread_tree m) (object_tree prop_or_spread_tree k) o → Replaced mark (expr_tree e) (expr_tree f) o
object_replaced mark e f n m k o is same after h = subst (λ t. Replaced mark t (expr_tree f) o) (ap (object_tree prop_or_spread_tree) same ∙ sym (ap expr_tree is ∙ expr_tree-Object n)) (subst (λ u. Replaced mark (object_tree prop_or_spread_tree m) u o) (sym (ap expr_tree after ∙ expr_tree-Object k)) h)
