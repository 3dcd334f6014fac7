-- What `misplaced` keeps of the units that it has passed.
use Rattle.std.proofs.Common.{ℕ, List, ◌<◌, ◌≤◌, get_or}
use Rattle.text_outline.specs.Order.{LiesIn}
use Rattle.text_outline.specs.declared.units.Unit.{Unit}

-- the first n units lie in the text, in order and apart, and end before this place or there
pub record ArePlaced (text : List ℕ) (units : List Unit) (n place : ℕ) : Type 0 where
  pub each : (k : ℕ) (d : Unit) → k < n → LiesIn text (get_or units k d)
  pub apart : (i j : ℕ) (d : Unit) → i < j → j < n → (get_or units i d).end ≤ (get_or units j d).start
  pub before : (k : ℕ) (d : Unit) → k < n → (get_or units k d).end ≤ place
