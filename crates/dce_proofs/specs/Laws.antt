-- What is proved of the walks of the tree shaker.
use Rattle.std.specs.Prelude.{ℕ, ◌≡◌, ◌<◌, Bool, true, false, not, List, ◌∷◌}
use Rattle.swc_ast.specs.declared.Span.{Span}
use Rattle.swc_ast.specs.Core.{IsCore}
use Rattle.swc_ast.specs.Meaning.{is_unresolved}
use Rattle.swc_ast.specs.Reach.{Reached}
use Rattle.swc_ast.specs.Resolved.{IsResolved}
use Rattle.swc_ast.specs.Run.{Same}
use Rattle.swc_ast.specs.Tree.{Text, Name, Label, Module, Tree, node, Forest}
use Rattle.swc_ast.specs.Weight.{weight}
use Rattle.swc_ast.specs.Valid.{valid}
use Rattle.static_proofs.specs.Shaped.{IsShaped}
use Rattle.tree_walk.specs.Walks.{Whole}
use Rattle.dce_rules.specs.Apart.{has_function}
use Rattle.dce_rules.specs.Left.{declared_plainly, Entered, speaks_of_arguments, is_kept}
use Rattle.dce_rules.specs.Shakes.{Shaker, shake_pass}
use Rattle.dce_rules.specs.Uses.{calls_eval, free_to_go, is_unread}

-- what the shaker takes for known holds of the module that it walks
pub record Knows (S : Shaker) (retained : List Text) (t : Tree) : Type 0 where
  pub free_are : (x : Name) → S.free x ≡ true → free_to_go retained t x ≡ true
  pub unread_are : (x : Name) → S.unread x ≡ true → is_unread retained t x ≡ true
  pub unread_bound : (x : Name) → S.unread x ≡ true → is_unresolved S.mark x ≡ false

-- a module that is resolved, in the core and shaped does what it did; where imports go, loads don't count
abbrev pub ShakenIsSame : Type 0
ShakenIsSame = (S : Shaker) (retained : List Text) (loads c : Bool) (t u : Tree) → S.drops_imports ≡ not loads → Knows S retained t → IsResolved S.mark t → IsCore t → IsShaped t → Whole (shake_pass S) c t u → Same S.mark loads t u

-- what is resolved stays so
abbrev pub ShakenIsResolved : Type 0
ShakenIsResolved = (S : Shaker) (retained : List Text) (mark : ℕ) (c : Bool) (t u : Tree) → Knows S retained t → Whole (shake_pass S) c t u → IsResolved mark t → IsResolved mark u

-- what is in the core, and so valid, stays so
abbrev pub ShakenIsCore : Type 0
ShakenIsCore = (S : Shaker) (c : Bool) (t u : Tree) → Whole (shake_pass S) c t u → IsCore t → IsCore u

-- a change is lighter
abbrev pub ShakenIsLighter : Type 0
ShakenIsLighter = (S : Shaker) (t u : Tree) → Whole (shake_pass S) true t u → weight u < weight t

-- each function of the own list of a resolved core module that is reached stands in the answer
abbrev pub ReachedStands : Type 0
ReachedStands = (S : Shaker) (retained : List Text) (mark : ℕ) (c : Bool) (ss rs : List Span) (ts us : Forest) → Knows S retained (node Module ss ts) → Whole (shake_pass S) c (node Module ss ts) (node Module rs us) → IsResolved mark (node Module ss ts) → IsCore (node Module ss ts) → IsShaped (node Module ss ts) → (f : Name) → Reached retained ts f → has_function f ts ≡ true → has_function f us ≡ true

-- Where nothing changed and all names that are free to go could have gone, what entered nodes of a valid tree declare plainly is
-- exported, retained or named outside functions of its name.
abbrev pub UnchangedIsKept : Type 0
UnchangedIsKept = (S : Shaker) (retained : List Text) (t : Tree) → Knows S retained t → ((x : Name) → free_to_go retained t x ≡ true → S.free x ≡ true) → IsShaped t → valid t ≡ true → calls_eval t ≡ false → speaks_of_arguments t ≡ false → Whole (shake_pass S) false t t
    → (l : Label) (ss : List Span) (cs : Forest) → Entered (node l ss cs) t → (x : Name) (xs : List Name) → declared_plainly l cs ≡ x ∷ xs → is_kept retained t x ≡ true
