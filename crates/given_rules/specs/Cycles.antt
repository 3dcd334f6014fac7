-- Values that are met while they are walked.
use Rattle.std.specs.Prelude.{ℕ, ◌≡◌, Bool, true, false, ◌==◌, ◌||◌, List, [], ◌∷◌}
use Rattle.swc_ast.specs.Tree.{Tree}
use Rattle.swc_pass.specs.Given.{Answers, value_at}
use Rattle.given_rules.specs.Met.{met}

abbrev pub is_among : ℕ → List ℕ → Bool
is_among i [] = false
is_among i (j ∷ js) = (j == i) || is_among i js

-- a value is met in a tree, or in a value that is met there, and so on
pub data Leads (a : Answers) : Tree → ℕ → Type 0 where
  meets : {t : Tree} {i : ℕ} → is_among i (met a t) ≡ true → Leads a t i
  through : {t : Tree} (i : ℕ) {j : ℕ} → is_among i (met a t) ≡ true → Leads a (value_at a.values i) j → Leads a t j

-- a value is met while its own code is walked
pub record Cycle (a : Answers) (t : Tree) (i : ℕ) : Type 0 where
  pub reached : Leads a t i
  pub again : Leads a (value_at a.values i) i
