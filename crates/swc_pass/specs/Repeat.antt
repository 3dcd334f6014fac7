-- What a pass that runs again and again may answer.
use Rattle.std.specs.Prelude.{ℕ, ◌+◌, ◌≡◌, ◌<◌, ◌≤◌, Bool, true, false}
use Rattle.swc_ast.specs.Tree.{Tree}
use Rattle.swc_ast.specs.Weight.{weight}
use Rattle.swc_pass.specs.Pass.{PassSpec, SameBare}
use Rattle.swc_pass.specs.Chain.{GivesBack}

-- so many rounds, each of which changes something, but for the last one where the flag is true, which changes nothing
pub data Rounds (answers : Tree → Tree → Type 0) (t : Tree) : ℕ → Bool → Tree → Type 0 where
  none : Rounds answers t 0 false t
  changing : {n : ℕ} {u v : Tree} → Rounds answers t n false u → answers u v → (SameBare u v → ⊥) → Rounds answers t (n + 1) false v
  last : {n : ℕ} {u : Tree} → Rounds answers t n false u → answers u u → Rounds answers t (n + 1) true u

-- so many rounds, at most so many as may be, and fewer only where the last one changed nothing
pub record Rounded (p : PassSpec) (most : ℕ) (t : Tree) (n : ℕ) (reached : Bool) (u : Tree) : Type 0 where
  pub rounds : Rounds p.answers t n reached u
  pub within : n ≤ most
  pub fewer : n < most → reached ≡ true

-- what these rounds come to: the input where it is equal up to spans
pub record Repeats (p : PassSpec) (most : ℕ) (t : Tree) (n : ℕ) (reached : Bool) (u : Tree) : Type 0 where
  pub last : Tree
  pub rounded : Rounded p most t n reached last
  pub gives : GivesBack t last u

-- What a run gives: these rounds, and where each change is lighter they come to an end, in so few of them.
pub record FoldsAgain (p : PassSpec) (most : ℕ) (t : Tree) (n : ℕ) (reached : Bool) (u : Tree) : Type 0 where
  pub repeats : Repeats p most t n reached u
  pub comes_to_end : p.lowers ≡ true → weight t < most → reached ≡ true
  pub few_rounds : p.lowers ≡ true → n ≤ weight t + 1

abbrev pub repeated : PassSpec → ℕ → PassSpec
repeated p most = record { mark = p.mark; loads = p.loads; lowers = p.lowers; answers = λ t u. (n : ℕ) × (reached : Bool) × Repeats p most t n reached u }
