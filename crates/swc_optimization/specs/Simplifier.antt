-- What the simplifier makes of a module or a script.
use Rattle.std.specs.Prelude.{ℕ, ◌≡◌, ◌<◌, ◌≤◌, ◌+◌, Bool, true, false, List, ◌∷◌, Some}
use Rattle.swc_ast.specs.declared.Span.{Span}
use Rattle.swc_ast.specs.Core.{IsCore}
use Rattle.swc_ast.specs.Marks.{mark_number}
use Rattle.swc_ast.specs.Redex.{has_redex}
use Rattle.swc_ast.specs.Resolved.{IsResolved}
use Rattle.swc_ast.specs.Run.{Same}
use Rattle.swc_ast.specs.Tree.{Name, Label, Tree, node, Forest}
use Rattle.swc_ast.specs.Valid.{valid}
use Rattle.swc_ast.specs.Weight.{weight}
use Rattle.swc_pass.specs.Pass.{PassSpec, TellsChange}
use Rattle.swc_pass.specs.Repeat.{Rounded}
use Rattle.swc_expr.specs.Simplified.{Simplified}
use Rattle.swc_branch.specs.Removed.{Removed}
use Rattle.swc_dce.specs.Shaken.{Told, Shaken}
use Rattle.dce_rules.specs.Left.{declared_plainly, Entered, speaks_of_arguments, is_kept}
use Rattle.dce_rules.specs.Uses.{calls_eval}

-- one round: the expression simplifier, then the remover of dead branches, then the tree shaker
pub record Round (told : Told) (t u : Tree) : Type 0 where
  pub simplified : Tree
  pub removed : Tree
  pub simplifies : Simplified (mark_number told.mark) t simplified
  pub removes : Removed (mark_number told.mark) simplified removed
  pub shakes : Shaken told removed u

abbrev pub round_spec : Told → PassSpec
round_spec told = record { mark = Some told.mark; loads = told.keeps_imports; lowers = true; answers = Round told }

-- rounds, at most so many
abbrev pub rounds_spec : Told → ℕ → PassSpec
rounds_spec told most = record { mark = Some told.mark; loads = told.keeps_imports; lowers = true; answers = λ t u. (n : ℕ) × (reached : Bool) × Rounded (round_spec told) most t n reached u }

-- a tree in which a round finds nothing to do
pub record Settled (told : Told) (t : Tree) : Type 0 where
  -- no operator and no condition is left on literals that tell what it gives, and no statement and no list that may go
  pub simple : has_redex t ≡ false
  -- where names of the top level go too, what declares a name plainly, in a place that is entered, is exported, retained or
  -- named elsewhere: so no function is left that only its own body names
  pub used : told.top_level ≡ true → calls_eval t ≡ false → speaks_of_arguments t ≡ false
      → (l : Label) (ss : List Span) (cs : Forest) → Entered (node l ss cs) t → (x : Name) (xs : List Name) → declared_plainly l cs ≡ x ∷ xs → is_kept told.retained t x ≡ true

-- a simplifier: what it was told, how many rounds it may run, and of its last run how many rounds it had, whether the last one
-- of them changed nothing, and whether any changed more than spans
pub record Simplifying : Type 0 where
  pub told : Told
  pub most : ℕ
  pub rounds : ℕ
  pub reached : Bool
  pub changed : Bool

-- What a run makes of a module or a script: by a configuration and the greatest number of rounds, and by what the simplifier tells afterwards.
pub record Simplifies (told : Told) (most : ℕ) (now : Simplifying) (t u : Tree) : Type 0 where
  -- of what is resolved and in the core, the result does the same in each world
  pub same : IsResolved (mark_number told.mark) t → IsCore t → Same (mark_number told.mark) told.keeps_imports t u
  -- what is resolved stays so
  pub stays_resolved : IsResolved (mark_number told.mark) t → IsResolved (mark_number told.mark) u
  -- what is valid stays so
  pub stays_valid : valid t ≡ true → valid u ≡ true
  -- what is in the core stays so
  pub stays_core : IsCore t → IsCore u
  -- whether the result differs by more than spans
  pub changed : TellsChange now.changed t u
  -- the result is that of so many rounds, the last of which changed nothing or not
  pub rounds : Rounded (round_spec told) most t now.rounds now.reached u
  -- where more rounds are allowed than the input weighs, the last one changes nothing
  pub comes_to_end : weight t < most → now.reached ≡ true
  -- there are at most as many rounds as the input weighs, and one more
  pub few_rounds : now.rounds ≤ weight t + 1
  -- where the last round changed nothing, a valid result leaves nothing to do
  pub settled : now.reached ≡ true → valid u ≡ true → Settled told u
