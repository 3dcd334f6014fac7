-- What the rules of a form of statements tell of the statement.
use Rattle.std.proofs.Common.{◌≡◌, ℕ, Option, None, Ok, Err, IfOk, refl, sym, ap, ◌∙◌, subst}
use Rattle.std.specs.declared.alloc.AllocError.{AllocError}
use Rattle.std.specs.declared.result.Result.{Result}
use Rattle.swc_ast.specs.Tree.{Tree}
use Rattle.swc_ast.specs.Views.{stmt_tree}
use Rattle.swc_ast.specs.declared.statements.Stmt.{Stmt}
use Rattle.branch_rules.specs.Turns.{Turns, as_it_was}

-- none takes it
pub unturned : (mark : ℕ) (t : Tree) → Turns mark t t None
unturned mark t = as_it_was refl

module _ {N : Type 0} (into : N → Stmt) (tree : N → Tree) (form : (n : N) → stmt_tree (into n) ≡ tree n) (mark : ℕ) where
  pub turns_in : (e f : Stmt) (n m k : N) (o : Option Stmt) → e ≡ into n → m ≡ n → f ≡ into k → Turns mark (tree m) (tree k) o → Turns mark (stmt_tree e) (stmt_tree f) o
  turns_in e f n m k o is same after h = subst (λ t. Turns mark t (stmt_tree f) o) (ap tree same ∙ sym (ap stmt_tree is ∙ form n)) (subst (λ u. Turns mark (tree m) u o) (sym (ap stmt_tree after ∙ form k)) h)

  -- of rules that know no mark
  pub all_turn_in : (r : Result (Option Stmt) AllocError) (e f : Stmt) (n m k : N) → e ≡ into n → m ≡ n → f ≡ into k → IfOk r (λ o. (mark : ℕ) → Turns mark (tree m) (tree k) o) → IfOk r (λ o. Turns mark (stmt_tree e) (stmt_tree f) o)
  all_turn_in (Ok o) e f n m k is same after h = turns_in e f n m k o is same after (h mark)
  all_turn_in (Err x) e f n m k is same after h = tt
