-- Items of a list in layers: in which round of the shaker each goes.
use Rattle.std.specs.Prelude.{ℕ, ◌≤◌, ◌<◌, ◌≡◌, ◌⊎◌, Bool, true, false, not, if◌then◌else◌, List, [], ◌∷◌, ◌++◌, Option, Some, None, max, nat_lt}
use Rattle.swc_ast.specs.Run.{has_text}
use Rattle.swc_ast.specs.Scope.{has_name}
use Rattle.swc_ast.specs.Tree.{Text, Name, Module, Tree, node, Forest, ε, ◌⊳◌, label_of, children_of}
use Rattle.dce_rules.specs.Uses.{free_to_go}
use Rattle.dce_layer_proofs.specs.Frames.{Frame, outer, FitsIn}
use Rattle.dce_layer_proofs.specs.Goers.{goes_with, inner_goers, is_void_item, tight}

-- items, each with the round in which it goes
abbrev pub Layers : Type 0
Layers = List (Tree × ℕ)

-- the items
abbrev pub items : Layers → Forest
items [] = ε
items (p ∷ ps) = p.0 ⊳ items ps

-- those that are left in front of a round
abbrev pub live : ℕ → Layers → Forest
live r [] = ε
live r (p ∷ ps) = if nat_lt p.1 r then live r ps else (p.0 ⊳ live r ps)

-- whether an item keeps a name, by itself
abbrev pub notes : Name → Tree → Bool
notes x t = not (free_to_go [] (node Module [] (t ⊳ ε)) x)

-- the last round in front of which an item is left that keeps a name; 0 where none keeps it
abbrev pub top : Name → Layers → ℕ
top x [] = 0
top x (p ∷ ps) = max (if notes x p.0 then p.1 else 0) (top x ps)

-- Up to a round of some a name stays: it is retained, or an item is left that keeps it.
abbrev pub Stays : List Text → Layers → ℕ → ℕ → Name → Type 0
Stays retained ps rounds r x = (has_text x.text retained ≡ true) ⊎ ((r ≤ top x ps) ⊎ (rounds ≤ top x ps))

-- What goes in a round: an item with a name that isn't retained, and that no item keeps which is left then.
abbrev pub Leaves : List Text → Layers → ℕ → Option Name → Type 0
Leaves retained ps r (Some x) = (has_text x.text retained ≡ false) × (top x ps < r)
Leaves retained ps r None = ⊥

-- It stays up to the round before.
abbrev pub Waits : List Text → Layers → ℕ → ℕ → Option Name → Type 0
Waits retained ps rounds r (Some x) = Stays retained ps rounds r x
Waits retained ps rounds r None = Unit {0}

-- An item stands in the layer where it belongs, where unresolved names have a mark.
pub record Placed (mark : ℕ) (retained : List Text) (ps : Layers) (rounds : ℕ) (t : Tree) (r : ℕ) : Type 0 where
  pub tight : tight t ≡ true
  pub solid : is_void_item t ≡ false
  pub some : 0 < r
  pub goers : (x : Name) → has_name x (inner_goers mark (label_of t) (children_of t)) ≡ true → Stays retained ps rounds r x
  pub goes : r ≤ rounds → Leaves retained ps r (goes_with mark (label_of t) (children_of t))
  pub waits : (s : ℕ) → s < r → Waits retained ps rounds s (goes_with mark (label_of t) (children_of t))

-- Each of some items does.
abbrev pub AllPlaced : ℕ → List Text → Layers → ℕ → Layers → Type 0
AllPlaced mark retained all rounds [] = Unit {0}
AllPlaced mark retained all rounds (p ∷ ps) = Placed mark retained all rounds p.0 p.1 × AllPlaced mark retained all rounds ps

-- whether some item stands in a layer
abbrev pub has_layer : ℕ → Layers → Bool
has_layer r [] = false
has_layer r (p ∷ ps) = if nat_lt p.1 r then has_layer r ps else (if nat_lt r p.1 then has_layer r ps else true)

-- Each of some items has a layer behind so many rounds.
abbrev pub AllStay : ℕ → Layers → Type 0
AllStay rounds [] = Unit {0}
AllStay rounds (p ∷ ps) = (rounds < p.1) × AllStay rounds ps

-- Items that stand somewhere in a module and go layer by layer in so many rounds, and the module's other items, which stay.
pub record Peels (mark : ℕ) (retained : List Text) (rounds : ℕ) (F : Frame) (others layers : Layers) : Type 0 where
  pub outside : items others ≡ outer F
  pub fits : FitsIn F (items layers)
  pub stay : AllStay rounds others
  pub placed : AllPlaced mark retained (others ++ layers) rounds (others ++ layers)
  pub reaches : has_layer rounds layers ≡ true
