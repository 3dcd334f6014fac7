-- What the items of a module's list are, by the numbers of names, and in which rounds they go.
use Rattle.std.specs.Prelude.{ℕ, ◌≡◌, ◌⊎◌, true, false, List, [], ◌∷◌, Option, Some, None, position}
use Rattle.swc_ast.specs.Run.{has_text}
use Rattle.swc_ast.specs.Scope.{has_name, default_name}
use Rattle.swc_ast.specs.Tree.{Text, Name, same_name, Tree, Forest, ε, ◌⊳◌, label_of, children_of}
use Rattle.dce_peel.specs.declared.item.Item.{Item}
use Rattle.dce_peel.specs.Rounds.{among}
use Rattle.dce_layer_proofs.specs.Frames.{Frame}
use Rattle.dce_layer_proofs.specs.Goers.{goes_with, inner_goers, is_void_item, tight}
use Rattle.dce_layer_proofs.specs.Layers.{Layers, items, notes, Peels}

-- A name has a number. That of a default export without a name has none.
pub record IsNumber (names : List Name) (x : Name) (n : ℕ) : Type 0 where
  pub named : same_name x default_name ≡ false
  pub number : position (same_name x) names ≡ Some n

-- The number of a name is among some.
abbrev pub IsAmong : List Name → List ℕ → Name → Type 0
IsAmong names ns x = (n : ℕ) × (IsNumber names x n × (among ns n ≡ true))

-- The number of the name with which an item goes, if that isn't retained.
abbrev pub GoesBy : List Text → List Name → Option Name → Option ℕ → Type 0
GoesBy retained names (Some x) (Some n) = (has_text x.text retained ≡ false) × IsNumber names x n
GoesBy retained names (Some x) None = has_text x.text retained ≡ true
GoesBy retained names None (Some n) = ⊥
GoesBy retained names None None = Unit {0}

-- An item of a list by numbers of names. Another name that is declared in it is one that it keeps, or is retained, or is told.
pub record Describes (mark : ℕ) (retained : List Text) (names : List Name) (t : Tree) (i : Item) : Type 0 where
  pub tight : tight t ≡ true
  pub solid : is_void_item t ≡ false
  pub name : GoesBy retained names (goes_with mark (label_of t) (children_of t)) i.name
  pub goers : (x : Name) → has_name x (inner_goers mark (label_of t) (children_of t)) ≡ true → (notes x t ≡ true) ⊎ ((has_text x.text retained ≡ true) ⊎ IsAmong names i.goers.items x)
  pub notes : (x : Name) (n : ℕ) → IsNumber names x n → among i.notes.items n ≡ notes x t

-- The same of each item of a list.
abbrev pub AllDescribed : ℕ → List Text → List Name → Forest → List Item → Type 0
AllDescribed mark retained names ε [] = Unit {0}
AllDescribed mark retained names (t ⊳ ts) (i ∷ is) = Describes mark retained names t i × AllDescribed mark retained names ts is
AllDescribed mark retained names ts is = ⊥

-- items, each with its layer
abbrev pub layered : Forest → List ℕ → Layers
layered (t ⊳ ts) (r ∷ rs) = (t, r) ∷ layered ts rs
layered ts rs = []

-- Each item of a list has the layer where it belongs, beside the module's other items, which stay, and each of so many rounds takes one.
pub record IsLayered (mark : ℕ) (retained : List Text) (rounds : ℕ) (F : Frame) (ts : Forest) (layers : List ℕ) : Type 0 where
  pub whole : items (layered ts layers) ≡ ts
  pub others : Layers
  pub peels : Peels mark retained rounds F others (layered ts layers)
