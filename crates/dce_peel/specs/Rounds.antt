-- Items of a list, by the numbers of names, each with its layer: the round in which it goes.
use Rattle.std.specs.Prelude.{ℕ, ◌+◌, ◌≡◌, ◌≤◌, ◌<◌, ◌⊎◌, Bool, true, false, ◌||◌, if◌then◌else◌, List, [], ◌∷◌, length, slice_index, IfSome, Option, Some, None, max, nat_eq, nat_lt}
use Rattle.dce_peel.specs.declared.item.Item.{Item}

-- whether a number is among some
abbrev pub among : List ℕ → ℕ → Bool
among [] n = false
among (m ∷ ms) n = nat_eq n m || among ms n

-- the greatest layer of an item that notes a name; 0 where none does
abbrev pub top : List Item → List ℕ → ℕ → ℕ
top (i ∷ is) (r ∷ rs) n = max (if among i.notes.items n then r else 0) (top is rs n)
top is rs n = 0

-- Up to a round of some an item is left that notes a name.
abbrev pub Stays : (ℕ → ℕ) → ℕ → ℕ → ℕ → Type 0
Stays tops rounds r n = (r ≤ tops n) ⊎ (rounds ≤ tops n)

-- What goes in a round: an item whose name no item notes which is left then.
abbrev pub Leaves : (ℕ → ℕ) → ℕ → Option ℕ → Type 0
Leaves tops r None = ⊥
Leaves tops r (Some f) = tops f < r

-- It stays up to the round before.
abbrev pub Waits : (ℕ → ℕ) → ℕ → ℕ → Option ℕ → Type 0
Waits tops rounds r None = Unit {0}
Waits tops rounds r (Some f) = (r ≤ tops f + 1) ⊎ (rounds ≤ tops f)

-- An item stands in the layer where it belongs.
pub record Fits (tops : ℕ → ℕ) (rounds : ℕ) (i : Item) (r : ℕ) : Type 0 where
  pub some : 0 < r
  pub goes : r ≤ rounds → Leaves tops r i.name
  pub waits : Waits tops rounds r i.name
  pub goers : (n : ℕ) → among i.goers.items n ≡ true → Stays tops rounds r n

-- An item does, by a table of the greatest layers.
pub record FitsBy (tops : List ℕ) (rounds : ℕ) (i : Item) (r : ℕ) : Type 0 where
  pub some : 0 < r
  pub name : IfSome i.name (λ f. f < length tops)
  pub goes : r ≤ rounds → Leaves (slice_index tops) r i.name
  pub waits : Waits (slice_index tops) rounds r i.name
  pub goers : (n : ℕ) → among i.goers.items n ≡ true → (n < length tops) × Stays (slice_index tops) rounds r n

-- Something holds of each item and its layer, and each has one.
abbrev pub Each : (Item → ℕ → Type 0) → List Item → List ℕ → Type 0
Each P [] [] = Unit {0}
Each P (i ∷ is) (r ∷ rs) = P i r × Each P is rs
Each P is rs = ⊥

-- Layers of items: of so many rounds each takes one.
pub record AreLayers (items : List Item) (rounds : ℕ) (layers : List ℕ) : Type 0 where
  pub fit : Each (Fits (top items layers) rounds) items layers
  pub reaches : 0 < rounds → among layers rounds ≡ true

-- whether the first item stays for so many rounds; one without a layer does
abbrev pub first_stays : ℕ → List ℕ → Bool
first_stays rounds [] = true
first_stays rounds (r ∷ rs) = nat_lt rounds r

-- the layers of the items behind the first
abbrev pub behind : List ℕ → List ℕ
behind [] = []
behind (r ∷ rs) = rs

-- the items that stay for so many rounds
abbrev pub staying : {T : Type 0} → ℕ → List T → List ℕ → List T
staying rounds [] rs = []
staying rounds (x ∷ xs) rs = if first_stays rounds rs then x ∷ staying rounds xs (behind rs) else staying rounds xs (behind rs)
