-- What the rules of a form of expressions tell of the expression.
use Rattle.std.proofs.Common.{◌≡◌, ℕ, Option, Ok, Err, IfOk, sym, ap, ◌∙◌, subst}
use Rattle.std.specs.declared.alloc.AllocError.{AllocError}
use Rattle.std.specs.declared.result.Result.{Result}
use Rattle.swc_ast.specs.Tree.{Tree}
use Rattle.swc_ast.specs.Views.{expr_tree}
use Rattle.swc_ast.specs.declared.expressions.Expr.{Expr}
use Rattle.branch_rules.specs.Expressions.{Becomes}

module _ {N : Type 0} (into : N → Expr) (tree : N → Tree) (form : (n : N) → expr_tree (into n) ≡ tree n) (mark : ℕ) where
  pub becomes_in : (e f : Expr) (n m k : N) (o : Option Expr) → e ≡ into n → m ≡ n → f ≡ into k → Becomes mark (tree m) (tree k) o → Becomes mark (expr_tree e) (expr_tree f) o
  becomes_in e f n m k o is same after h = subst (λ t. Becomes mark t (expr_tree f) o) (ap tree same ∙ sym (ap expr_tree is ∙ form n)) (subst (λ u. Becomes mark (tree m) u o) (sym (ap expr_tree after ∙ form k)) h)

  pub all_become_in : (r : Result (Option Expr) AllocError) (e f : Expr) (n m k : N) → e ≡ into n → m ≡ n → f ≡ into k → IfOk r (λ o. Becomes mark (tree m) (tree k) o) → IfOk r (λ o. Becomes mark (expr_tree e) (expr_tree f) o)
  all_become_in (Ok o) e f n m k is same after h = becomes_in e f n m k o is same after h
  all_become_in (Err x) e f n m k is same after h = tt
