-- A pass whose steps do the same and declare the same: no name is dropped, and items go only by steps of their lists.
use Rattle.std.specs.Prelude.{ℕ, ◌≡◌, false, List}
use Rattle.swc_ast.specs.declared.Span.{Span}
use Rattle.swc_ast.specs.Tree.{Name, Label, Param, Module, Tree, node, Forest, ε, ◌⊳◌, label_of}
use Rattle.meaning_proofs.specs.Exact.{Exact, ListExact, GivesUndefined}
use Rattle.meaning_proofs.specs.Roles.{is_item, module_items, Fits, SameLists}
use Rattle.meaning_proofs.specs.Walks.{Steps, no_names}
use Rattle.tree_walk.specs.Pass.{Pass}
use Rattle.walk_proofs.specs.Meant.{Unused}

-- a step at a node: it does the same, declares the same and is at no import or export; or it takes a default that gives undefined
pub data NodeRight (mark : ℕ) : Tree → Tree → Type 0 where
  does_same : {t u : Tree} → Exact mark t u → Fits no_names t u → is_item (label_of t) ≡ false → NodeRight mark t u
  default_goes : {x : Name} {ss rs : List Span} {t : Tree} → GivesUndefined mark t → NodeRight mark (node (Param x) ss (t ⊳ ε)) (node (Param x) rs ε)

-- each step of a pass does the same and declares the same
pub record PlainRight (X : Pass) (mark : ℕ) : Type 0 where
  pub open_exact : (t u : Tree) → X.opens t u → Exact mark t u
  pub open_fits : (t u : Tree) → X.opens t u → Fits no_names t u
  pub open_no_item : (t u : Tree) → X.opens t u → is_item (label_of t) ≡ false
  pub node_right : (t u : Tree) → X.steps t u → NodeRight mark t u
  pub list_exact : (l : Label) (ts us : Forest) → X.tidies l ts us → ListExact mark ts us
  pub list_declares : (l : Label) (ts us : Forest) → X.tidies l ts us → SameLists no_names ts us
  pub items_stay : (ts us : Forest) → X.tidies Module ts us → module_items ts ≡ module_items us

-- a step, or none
pub data Moves (R : Tree → Tree → Type 0) (t : Tree) : Tree → Type 0 where
  unmoved : Moves R t t
  moved : {u : Tree} → R t u → Moves R t u

-- the same of a list
pub data ListMoves (R : Label → Forest → Forest → Type 0) (ts : Forest) : Forest → Type 0 where
  unmoved_list : ListMoves R ts ts
  moved_list : (l : Label) {us : Forest} → R l ts us → ListMoves R ts us

-- the steps of the walk that keeps what a program does
abbrev pub plain_steps : ℕ → Pass → Steps
plain_steps mark X = record { Early = X.opens; Node = Moves (λ t u. Exact mark t u × Fits no_names t u); Before = ListMoves (λ l ts us. ⊥); Behind = ListMoves X.tidies; Goes = Unused no_names; GoesBehind = λ t. ⊥ }
