-- When what is given makes a module too deep.
use Rattle.std.specs.Prelude.{ℕ, ◌≡◌, ◌<◌, ◌≤◌, List, []}
use Rattle.swc_ast.specs.Tree.{Tree}
use Rattle.swc_ast.specs.declared.names.Mark.{Mark}
use Rattle.swc_levels.specs.Levels.{levels}
use Rattle.given_globals.specs.Globals.{answers_of}
use Rattle.given_globals.specs.declared.settings.Settings.{Settings}
use Rattle.swc_inline_globals.specs.Nesting.{Nests}
use Rattle.shake_options.specs.Flags.{FlagText}
use Rattle.shake_given.specs.declared.given.GivenNames.{GivenNames}
use Rattle.shake_given.specs.Prepared.{AreSettings, NoNames, InBetween, Prepared, most_levels}

-- No more levels are counted than are asked for, of a tree and of values that stand in one another.
pub data Counted (g : GivenNames) (mark : Mark) (most : ℕ) (t : Tree) : Type 0 where
  no_names_counted : NoNames g → Counted g mark most t
  counted : (s : Settings) → AreSettings g mark s → ((n : ℕ) → Nests (answers_of s) t n → n ≤ most) → Counted g mark most t

-- More are counted.
pub record Nested (g : GivenNames) (mark : Mark) (most : ℕ) (t : Tree) : Type 0 where
  pub settings : Settings
  pub are : AreSettings g mark settings
  pub count : ℕ
  pub nests : Nests (answers_of settings) t count
  pub more : most < count

-- The same of a module once its imports are replaced.

abbrev pub NamesWithin : List FlagText → Mark → ℕ → Tree → Type 0
NamesWithin fs mark most t = InBetween fs mark t (λ g constant. Counted g mark most constant)

abbrev pub NamesNest : List FlagText → Mark → ℕ → Tree → Type 0
NamesNest fs mark most t = InBetween fs mark t (λ g constant. Nested g mark most constant)

-- a module with what flags give is no deeper than it may be, as it is counted before it is made
pub data Within (fs : List FlagText) (mark : Mark) (t : Tree) : Type 0 where
  unflagged_within : fs ≡ [] → Within fs mark t
  flagged_within : NamesWithin fs mark (most_levels t) t → Within fs mark t

-- Why a module is too deep: by what is counted before it is made, or as it was made.
pub data IsTooDeep (fs : List FlagText) (mark : Mark) (t : Tree) : Type 0 where
  counted_deep : NamesNest fs mark (most_levels t) t → IsTooDeep fs mark t
  made_deep : (u : Tree) → Prepared fs mark t u → most_levels t < levels u → IsTooDeep fs mark t
