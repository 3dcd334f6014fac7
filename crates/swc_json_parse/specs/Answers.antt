-- What the pass answers.
use Rattle.std.specs.Prelude.{ℕ, ◌≡◌, Bool, true, false, Option, Some, None}
use Rattle.swc_ast.specs.Core.{IsCore}
use Rattle.swc_ast.specs.Resolved.{IsResolved}
use Rattle.swc_ast.specs.Tree.{Tree}
use Rattle.swc_ast.specs.Valid as tree
use Rattle.swc_pass.specs.Chain.{GivesBack}
use Rattle.swc_pass.specs.Pass.{SameBare}
use Rattle.swc_json_parse.specs.Parsing.{parsed}

-- an answer on an input
pub record Parsed (least : ℕ) (t u : Tree) : Type 0 where
  -- each literal that is JSON and long enough is replaced, and nothing else is
  pub gives : GivesBack t (parsed least t) u
  -- what is valid, resolved or core stays so
  pub valid : tree.valid t ≡ true → tree.valid u ≡ true
  pub resolved : (mark : ℕ) → IsResolved mark t → IsResolved mark u
  pub core : IsCore t → IsCore u

-- a walk that makes v of t: what it gives is told unless the two are equal up to spans; for private clauses
abbrev pub WalkGives : {W : Type 0} → (W → Tree) → Tree → Tree → Option W → Bool → Type 0
WalkGives tree v t None changed = SameBare t v × (changed ≡ false)
WalkGives tree v t (Some w) changed = (tree w ≡ v) × (SameBare t v → ⊥) × (changed ≡ true)
