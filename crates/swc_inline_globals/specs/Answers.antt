-- What the pass answers, and why it refuses.
use Rattle.std.specs.Prelude.{ℕ, ◌≡◌, true, string_bytes, Some}
use Rattle.std.specs.declared.alloc.Global.{Global}
use Rattle.std.specs.declared.string.String.{String}
use Rattle.swc_ast.specs.Core.{IsCore}
use Rattle.swc_ast.specs.Resolved.{IsResolved}
use Rattle.swc_ast.specs.Tree.{Tree}
use Rattle.swc_ast.specs.Valid as tree
use Rattle.swc_ast.specs.declared.errors.PassError.{PassError}
use Rattle.swc_ast.specs.declared.errors.PassError.TheVariants.{OutOfMemory, CyclicGlobals}
use Rattle.swc_pass.specs.Chain.{GivesBack}
use Rattle.swc_pass.specs.Given.{Answers, SameGiven}
use Rattle.given_shield.specs.Shield.{shield}
use Rattle.given_rules.specs.Cycles.{Cycle}
use Rattle.given_rules.specs.Givable.{AllGivable}
use Rattle.given_rules.specs.Met.{met, covers}
use Rattle.given_rules.specs.Put.{here, put}
use Rattle.given_rules.specs.Worked.{Finals, finished, has_final, puts, Worked}
use Rattle.given_globals.specs.Globals.{answers_of, told_name}
use Rattle.given_globals.specs.declared.settings.Settings.{Settings}

-- What is given was put in the places of a tree, and first in those of the values that are met.
pub record IsPut (a : Answers) (t u : Tree) : Type 0 where
  pub finals : Finals
  pub worked : Worked a shield finals
  pub covered : covers (has_final finals) (met a t) ≡ true
  -- the tree itself where nothing but spans differs
  pub gives : GivesBack t (put (puts a shield (finished finals)) here t) u

-- an answer on an input
pub record Inlined (s : Settings) (t u : Tree) : Type 0 where
  -- it does what the input does where what is given stands for what is read
  pub same : (mark : ℕ) → SameGiven (answers_of s) mark t u
  pub put : IsPut (answers_of s) t u
  -- what is valid, resolved or core stays so, where the given expressions are such and bind no name
  pub valid : AllGivable (answers_of s) → tree.valid t ≡ true → tree.valid u ≡ true
  pub resolved : AllGivable (answers_of s) → (mark : ℕ) → IsResolved mark t → IsResolved mark u
  pub core : AllGivable (answers_of s) → IsCore t → IsCore u
  -- no value was met while its own code was walked
  pub acyclic : (i : ℕ) → Cycle (answers_of s) t i → ⊥

-- why an input is refused
pub data Refused (s : Settings) (t : Tree) : PassError → Type 0 where
  no_memory : Refused s t OutOfMemory
  -- a value was met while its own code was walked: its name is told
  cyclic : {name : String Global} (i : ℕ) → Cycle (answers_of s) t i → told_name s i ≡ Some (string_bytes name) → Refused s t (CyclicGlobals name)
