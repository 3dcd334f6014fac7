-- Where the units of an outline lie in its text, which is its bytes.
use Rattle.std.specs.Prelude.{ℕ, List, ◌<◌, ◌≤◌, All, AllPairs, IsCharBoundary}
use Rattle.text_outline.specs.declared.units.Unit.{Unit}

-- A unit lies in a text: it isn't empty, and it begins and ends at a boundary of characters, so within the text.
pub record LiesIn (text : List ℕ) (unit : Unit) : Type 0 where
  pub filled : unit.start < unit.end
  pub begins : IsCharBoundary text unit.start
  pub ends : IsCharBoundary text unit.end

-- The units of a text: each lies in it, and ends where a later one begins, or before.
pub record AreUnits (text : List ℕ) (units : List Unit) : Type 0 where
  pub each : All (LiesIn text) units
  pub apart : AllPairs (λ before after. before.end ≤ after.start) units
