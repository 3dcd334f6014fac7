-- What the tree shaker may answer on a module or a script, and what holds of each answer.
use Rattle.std.specs.Prelude.{ℕ, ◌≡◌, ◌<◌, ◌⊎◌, Bool, true, false, not, List, ◌∷◌, Some}
use Rattle.swc_ast.specs.declared.Span.{Span}
use Rattle.swc_ast.specs.declared.names.Mark.{Mark}
use Rattle.swc_ast.specs.Core.{IsCore}
use Rattle.swc_ast.specs.Marks.{mark_number}
use Rattle.swc_ast.specs.Reach.{Reached}
use Rattle.swc_ast.specs.Resolved.{IsResolved}
use Rattle.swc_ast.specs.Run.{Same}
use Rattle.swc_ast.specs.Tree.{Text, Name, Label, Module, Tree, node, Forest, label_of, children_of}
use Rattle.swc_ast.specs.Valid.{valid}
use Rattle.swc_ast.specs.Weight.{weight}
use Rattle.static_proofs.specs.Shaped.{IsShaped}
use Rattle.tree_walk.specs.Walks.{Whole}
use Rattle.swc_pass.specs.Pass.{PassSpec, IsLawful, SameBare, TellsChange}
use Rattle.dce_rules.specs.Apart.{has_function}
use Rattle.dce_rules.specs.Left.{declared_plainly, Entered, speaks_of_arguments, is_kept}
use Rattle.dce_rules.specs.Shakes.{Shaker, shake_pass}
use Rattle.dce_rules.specs.Uses.{calls_eval, free_to_go}
use Rattle.dce_proofs.specs.Laws.{Knows}

-- what the shaker is told
pub record Told : Type 0 where
  -- the mark of unresolved names
  pub mark : Mark
  -- whether names of the top level go too
  pub top_level : Bool
  -- the texts of names that stay
  pub retained : List Text
  -- whether an import stays whose specifiers are all gone
  pub keeps_imports : Bool

-- what it knows, made of what it is told and of the module
pub record MadeFor (told : Told) (S : Shaker) (t : Tree) : Type 0 where
  pub marked : S.mark ≡ mark_number told.mark
  pub imports : S.drops_imports ≡ not told.keeps_imports
  pub knows : Knows S told.retained t
  -- of the top level too, all names go that may
  pub all_go : told.top_level ≡ true → (x : Name) → free_to_go told.retained t x ≡ true → S.free x ≡ true

-- what it answers
pub record Shaken (told : Told) (t u : Tree) : Type 0 where
  -- one walk, by the rules of names that nothing reads
  pub shaker : Shaker
  pub made : MadeFor told shaker t
  pub changed : Bool
  pub walk : Whole (shake_pass shaker) changed t u
  -- both do the same in each world; loads of modules count where their imports stay
  pub same : (n : ℕ) → n ≡ mark_number told.mark → IsResolved n t → IsCore t → Same n told.keeps_imports t u
  pub resolved : (n : ℕ) → IsResolved n t → IsResolved n u
  pub stays_valid : valid t ≡ true → valid u ≡ true
  pub core : IsCore t → IsCore u
  pub lighter : SameBare t u ⊎ (weight u < weight t)
  -- each function of a module's own list that is reached stands
  pub reached : (n : ℕ) → label_of t ≡ Module → IsResolved n t → IsCore t → (f : Name) → Reached told.retained (children_of t) f → has_function f (children_of t) ≡ true → has_function f (children_of u) ≡ true
  -- where nothing changed, what declares a name plainly, in a place that is entered, is exported, retained or named elsewhere
  pub left : told.top_level ≡ true → SameBare t u → valid t ≡ true → calls_eval t ≡ false → speaks_of_arguments t ≡ false
      → (l : Label) (ss : List Span) (cs : Forest) → Entered (node l ss cs) t → (x : Name) (xs : List Name) → declared_plainly l cs ≡ x ∷ xs → is_kept told.retained t x ≡ true

abbrev pub shake_spec : Told → PassSpec
shake_spec told = record { mark = Some told.mark; loads = told.keeps_imports; lowers = true; answers = Shaken told }

pub shake_lawful : (told : Told) → IsLawful (shake_spec told)
shake_lawful told = record {
  same = λ n t u f a r c. a.same n f r c;
  resolved = λ n t u f a r. a.resolved n r;
  valid = λ n t u f a r v. a.stays_valid v;
  core = λ n t u f a r c. a.core c;
  lighter = λ t u e a. a.lighter;
}

-- each walk by the rules is such an answer
abbrev pub WalkIsShaken : Type 0
WalkIsShaken = (told : Told) (S : Shaker) (c : Bool) (t u : Tree) → MadeFor told S t → IsShaped t → Whole (shake_pass S) c t u → Shaken told t u

-- and tells whether it changed more than spans
abbrev pub WalkTells : Type 0
WalkTells = (S : Shaker) (c : Bool) (t u : Tree) → Whole (shake_pass S) c t u → TellsChange c t u

-- so the shaker is a lawful pass
abbrev pub LawfulShaking : Type 0
LawfulShaking = (told : Told) → IsLawful (shake_spec told)
