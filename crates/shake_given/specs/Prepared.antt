-- What becomes of a module in front of a pass.
use Rattle.std.specs.Prelude.{ℕ, ◌≡◌, Bool, true, List, [], Some, min, max}
use Rattle.swc_ast.specs.Core.{IsCore}
use Rattle.swc_ast.specs.Marks.{mark_number}
use Rattle.swc_ast.specs.Resolved.{IsResolved}
use Rattle.swc_ast.specs.Run.{World, LaterCall, Observation, Sees, observe, counted, Same}
use Rattle.swc_ast.specs.Tree.{Tree}
use Rattle.swc_ast.specs.Valid as tree
use Rattle.swc_ast.specs.declared.expressions.Expr.{Expr}
use Rattle.swc_ast.specs.declared.names.Mark.{Mark}
use Rattle.swc_levels.specs.Levels.{levels}
use Rattle.swc_pass.specs.Given.{Answers, observe_given}
use Rattle.given_globals.specs.Globals.{expressions, answers_of}
use Rattle.given_globals.specs.declared.settings.Settings.{Settings}
use Rattle.swc_inline_globals.specs.Answers.{Inlined}
use Rattle.const_imports.specs.declared.given.GivenModules.{GivenModules}
use Rattle.const_pass.specs.Replaced.{constants_in, Replaced}
use Rattle.shake_options.specs.Flags.{FlagText}
use Rattle.shake_given.specs.declared.given.Given.{Given}
use Rattle.shake_given.specs.declared.given.GivenNames.{GivenNames}
use Rattle.shake_given.specs.Reads.{Reads}

-- imports of given modules: the module itself where none is given
pub data Replaces (g : GivenModules Expr) (t u : Tree) : Type 0 where
  no_modules : g.modules.entries ≡ [] → u ≡ t → Replaces g t u
  replaced : Replaced (constants_in g) t u → Replaces g t u

-- the settings of the pass that puts what is given for names, with no values by names alone
pub record AreSettings (g : GivenNames) (mark : Mark) (s : Settings) : Type 0 where
  pub exprs : expressions s ≡ g.exprs
  pub globals : s.globals.now.entries ≡ []
  pub envs : s.envs.now ≡ g.envs
  pub typeofs : s.typeofs.now ≡ g.typeofs
  pub is_marked : s.mark ≡ Some mark

-- no name, no member and no `typeof` is given
pub record NoNames (g : GivenNames) : Type 0 where
  pub exprs : g.exprs ≡ []
  pub envs : g.envs.entries ≡ []
  pub typeofs : g.typeofs.entries ≡ []

-- names and members: the module itself where none is given
pub data Puts (g : GivenNames) (mark : Mark) (t u : Tree) : Type 0 where
  no_names : NoNames g → u ≡ t → Puts g mark t u
  put : (s : Settings) → AreSettings g mark s → Inlined s t u → Puts g mark t u

-- what holds of the names that flags give, and of a module once its imports are replaced: these come first
pub record InBetween (fs : List FlagText) (mark : Mark) (t : Tree) (P : GivenNames → Tree → Type 0) : Type 0 where
  pub given : Given
  pub read : Reads mark fs given
  -- the module once its imports are replaced
  pub constant : Tree
  pub replaces : Replaces given.modules t constant
  pub holds : P given.names constant

-- what flags make of a module
abbrev pub Flagged : List FlagText → Mark → Tree → Tree → Type 0
Flagged fs mark t u = InBetween fs mark t (λ g constant. Puts g mark constant u)

-- a module in front of a pass: itself where there are no flags
pub data Prepared (fs : List FlagText) (mark : Mark) (t u : Tree) : Type 0 where
  unflagged : fs ≡ [] → u ≡ t → Prepared fs mark t u
  flagged : Flagged fs mark t u → Prepared fs mark t u

-- how many levels of expressions and statements a module may have by what flags give: a thousand, or as many as it has, which
-- are counted up to 2^32 - 1
abbrev pub most_levels : Tree → ℕ
most_levels t = max 1000 (min (levels t) 4294967295)

-- what is valid, resolved or core stays so
pub record Stays (t u : Tree) : Type 0 where
  pub valid : tree.valid t ≡ true → tree.valid u ≡ true
  pub resolved : (n : ℕ) → IsResolved n t → IsResolved n u
  pub core : IsCore t → IsCore u

-- What a module does in the world with answers, the other does in the plain one, with loads where they count.
abbrev pub SameInFront : Answers → ℕ → Bool → Tree → Tree → Type 0
SameInFront a mark loads t v =
    (n d : ℕ) (w : World) (calls : List LaterCall) (o : Observation) → observe_given a mark n d w calls t ≡ Sees o →
    (p : Observation) × (observe mark n d w calls v ≡ Sees p) × (counted loads p ≡ counted loads o)

-- what is said of a module with what is given for names, and an answer
pub data SameNamed (g : GivenNames) (mark : Mark) (loads : Bool) (t v : Tree) : Type 0 where
  in_plain : NoNames g → Same (mark_number mark) loads t v → SameNamed g mark loads t v
  in_front : (s : Settings) → AreSettings g mark s → SameInFront (answers_of s) (mark_number mark) loads t v → SameNamed g mark loads t v

-- The module without its given imports does in the world with their values what `constant` does in the plain one; and what that
-- does in the world with answers for names, the answer does in the plain one.
abbrev pub SameWorlds : List FlagText → Mark → Bool → Tree → Tree → Type 0
SameWorlds fs mark loads t v = InBetween fs mark t (λ g constant. SameNamed g mark loads constant v)

-- a module and the answer of a pass behind its flags
pub data SameFlagged (fs : List FlagText) (mark : Mark) (loads : Bool) (t v : Tree) : Type 0 where
  same_unflagged : fs ≡ [] → Same (mark_number mark) loads t v → SameFlagged fs mark loads t v
  same_flagged : SameWorlds fs mark loads t v → SameFlagged fs mark loads t v
