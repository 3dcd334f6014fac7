-- What is proved of the walks of a pass.
use Rattle.std.specs.Prelude.{ℕ, ◌≡◌, ◌<◌, Bool, true, false}
use Rattle.swc_ast.specs.Tree.{Name, Label, Tree, Forest}
use Rattle.swc_ast.specs.Core.{IsCore}
use Rattle.swc_ast.specs.Resolved.{IsResolved}
use Rattle.swc_ast.specs.Run.{Same}
use Rattle.swc_ast.specs.Scope.{has_name}
use Rattle.swc_ast.specs.Weight.{weight}
use Rattle.static_proofs.specs.Free.{has_kind, kind_at}
use Rattle.static_proofs.specs.Lighter.{Lowers, is_settled}
use Rattle.static_proofs.specs.Shaped.{IsShaped}
use Rattle.static_proofs.specs.Spares.{exports_of}
use Rattle.static_proofs.specs.Step.{Step}
use Rattle.tree_walk.specs.Pass.{Pass}
use Rattle.tree_walk.specs.Walks.{Whole}
use Rattle.walk_proofs.specs.Finished.{Does, Finished}
use Rattle.walk_proofs.specs.Plain.{PlainRight}
use Rattle.walk_proofs.specs.Dying.{DyingRight}

-- Each step is one that a pass may take: of a pass that may make statements stop, where n is true, and that may drop no name
-- of those that p holds of.
abbrev pub StepsOwed : Pass → Bool → (Name → Bool) → Type 0
StepsOwed X n p = (a b : Tree) → Does X a b → Step (n ≡ true) (λ x. p x ≡ true) a b

-- steps that do the same and declare the same make a module or a script that does the same
abbrev pub RightIsSame : Pass → Type 0
RightIsSame X = (mark : ℕ) → PlainRight X mark → (loads c : Bool) (t u : Tree) → Whole X c t u → Same mark loads t u

-- so they do where names go behind what never ends normally, of a module that is resolved, in the core and shaped
abbrev pub DyingIsSame : Pass → Type 0
DyingIsSame X = (mark : ℕ) → DyingRight X mark → (loads c : Bool) (t u : Tree) → IsResolved mark t → IsCore t → IsShaped t → Whole X c t u → Same mark loads t u

-- what is resolved stays so, where the names that it exports may not be dropped
abbrev pub ResolvedIsKept : Pass → Type 0
ResolvedIsKept X = (n : Bool) (p : Name → Bool) → StepsOwed X n p → (mark : ℕ) (c : Bool) (t u : Tree) → ((x : Name) → has_name x (exports_of t) ≡ true → p x ≡ true) → Whole X c t u → IsResolved mark t → IsResolved mark u

-- what is in the core, and so valid, stays so
abbrev pub CoreIsKept : Pass → Type 0
CoreIsKept X = (n : Bool) (p : Name → Bool) → StepsOwed X n p → (c : Bool) (t u : Tree) → Whole X c t u → IsCore t → IsCore u

-- Each step lowers the weight, and where statements may stop, a node that no rule fits holds none behind one that does.
pub record Falls (X : Pass) (n : Bool) : Type 0 where
  pub lowers : (a b : Tree) → Does X a b → Lowers (n ≡ true) a b
  pub settled : (b : Tree) → Finished X b → n ≡ true → is_settled b

-- what a step was taken in is lighter
abbrev pub ChangedIsLighter : Pass → Type 0
ChangedIsLighter X = (n : Bool) → Falls X n → (t u : Tree) → Whole X true t u → weight u < weight t

-- what no step was taken in holds no redex of a kind that no rule leaves
abbrev pub UnchangedIsFree : Pass → Type 0
UnchangedIsFree X = (n : Bool) → Falls X n → (k : Label → Forest → Bool) → ((b : Tree) → Finished X b → kind_at k b ≡ false) → ((b : Tree) → X.skips b → has_kind k b ≡ false) → (t u : Tree) → Whole X false t u → has_kind k t ≡ false

-- what no step was taken in is the same, spans included
abbrev pub UnchangedIsSame : Pass → Type 0
UnchangedIsSame X = (t u : Tree) → Whole X false t u → u ≡ t
