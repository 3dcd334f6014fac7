-- What a pass tells of itself, and its laws.
use Rattle.std.specs.Prelude.{ℕ, Bool, true, false, ◌≡◌, ◌<◌, ◌⊎◌, ⊤, Option, Some, None}
use Rattle.swc_ast.specs.declared.names.Mark.{Mark}
use Rattle.swc_ast.specs.Marks.{mark_number}
use Rattle.swc_ast.specs.Tree.{Tree, bare}
use Rattle.swc_ast.specs.Valid.{valid}
use Rattle.swc_ast.specs.Resolved.{IsResolved}
use Rattle.swc_ast.specs.Core.{IsCore}
use Rattle.swc_ast.specs.Weight.{weight}
use Rattle.swc_ast.specs.Run.{Same}

pub record PassSpec : Type 1 where
  -- the mark that the pass was made with, if any
  pub mark : Option Mark
  -- whether the loads of modules stay, too
  pub loads : Bool
  -- whether what changes gets lighter
  pub lowers : Bool
  -- which modules or scripts the pass may answer, by what it is given
  pub answers : Tree → Tree → Type 0

-- the marks that a pass made with this one is for: every mark where there is none
abbrev pub IsFor : Option Mark → ℕ → Type 0
IsFor None n = ⊤
IsFor (Some m) n = n ≡ mark_number m

-- equal up to spans
abbrev pub SameBare : Tree → Tree → Type 0
SameBare t u = bare u ≡ bare t

-- `changed` is false exactly where the two are equal up to spans, and then they are equal with their spans
abbrev pub TellsChange : Bool → Tree → Tree → Type 0
TellsChange true t u = SameBare t u → ⊥
TellsChange false t u = u ≡ t

-- The laws of a pass.
pub record IsLawful (p : PassSpec) : Type 0 where
  -- what it answers does the same
  pub same : (n : ℕ) (t u : Tree) → IsFor p.mark n → p.answers t u → IsResolved n t → IsCore t → Same n p.loads t u
  -- resolved, valid and core modules stay so
  pub resolved : (n : ℕ) (t u : Tree) → IsFor p.mark n → p.answers t u → IsResolved n t → IsResolved n u
  pub valid : (n : ℕ) (t u : Tree) → IsFor p.mark n → p.answers t u → IsResolved n t → valid t ≡ true → valid u ≡ true
  pub core : (n : ℕ) (t u : Tree) → IsFor p.mark n → p.answers t u → IsResolved n t → IsCore t → IsCore u
  -- what changes gets lighter, where the pass says so
  pub lighter : (t u : Tree) → p.lowers ≡ true → p.answers t u → SameBare t u ⊎ (weight u < weight t)

-- What an answer of the pass owes its input, by these laws.
pub record Keeps (p : PassSpec) (t u : Tree) : Type 0 where
  -- it does the same
  pub same : (n : ℕ) → IsFor p.mark n → IsResolved n t → IsCore t → Same n p.loads t u
  -- it is resolved, valid and core where the input is
  pub resolved : (n : ℕ) → IsFor p.mark n → IsResolved n t → IsResolved n u
  pub valid : (n : ℕ) → IsFor p.mark n → IsResolved n t → valid t ≡ true → valid u ≡ true
  pub core : (n : ℕ) → IsFor p.mark n → IsResolved n t → IsCore t → IsCore u
  -- it is equal to the input up to spans or lighter, where the pass says so
  pub lighter : p.lowers ≡ true → SameBare t u ⊎ (weight u < weight t)

-- What a run of a pass gives, and what it tells of a change.
pub record Folds (p : PassSpec) (changed : Bool) (t u : Tree) : Type 0 where
  -- the pass may answer it
  pub answer : p.answers t u
  -- so it keeps what the laws say
  pub kept : Keeps p t u
  -- and it is told whether it is more than the input with other spans
  pub told : TellsChange changed t u

-- what a pass tells before its first run, and after a refusal: no change, no round that changed nothing, no rounds
abbrev pub NothingTold : Bool → Bool → ℕ → Type 0
NothingTold changed reached rounds = (changed ≡ false) × (reached ≡ false) × (rounds ≡ 0)
