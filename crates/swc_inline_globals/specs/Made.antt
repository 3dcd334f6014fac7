-- What the walks make, for private clauses.
use Rattle.std.specs.Prelude.{ℕ, ◌≡◌, true, false, Bool, slice_get, Option, Some, None, is_some}
use Rattle.swc_ast.specs.Tree.{Module, Script, Tree, node}
use Rattle.swc_pass.specs.Pass.{SameBare}
use Rattle.given_shield.specs.Shield.{shield}
use Rattle.given_rules.specs.Formed.{formed as is_formed}
use Rattle.given_rules.specs.Met.{met, covers}
use Rattle.given_rules.specs.Put.{here, put}
use Rattle.given_rules.specs.Worked.{Finals, finished, has_final, puts, Worked}
use Rattle.given_globals.specs.Globals.{answers_of}
use Rattle.given_globals.specs.declared.settings.Settings.{Settings}

abbrev pub is_whole : Tree → Bool
is_whole (node Module ss cs) = true
is_whole (node Script ss cs) = true
is_whole t = false

-- a module or a script, formed as the walk finds it
pub record IsWhole (t : Tree) : Type 0 where
  pub formed : is_formed t ≡ true
  pub whole : is_whole t ≡ true

-- what the walks make of a tree
pub record IsMade (s : Settings) (t u : Tree) : Type 0 where
  pub finals : Finals
  pub worked : Worked (answers_of s) shield finals
  pub covered : covers (has_final finals) (met (answers_of s) t) ≡ true
  pub known : (i : ℕ) → has_final finals i ≡ true → is_some (slice_get (answers_of s).values i) ≡ true
  pub is : u ≡ put (puts (answers_of s) shield (finished finals)) here t

-- what is given of it: nothing where it is equal to the input up to spans
abbrev pub WalkGives : {W : Type 0} → Settings → (W → Tree) → Tree → Option W → Bool → Type 0
WalkGives s tree t None changed = (v : Tree) × IsMade s t v × SameBare t v × (changed ≡ false)
WalkGives s tree t (Some w) changed = IsMade s t (tree w) × (SameBare t (tree w) → ⊥) × (changed ≡ true)
