-- The table of the greatest layers, and what is read off it.
use Rattle.std.proofs.Common.{ℕ, ◌≡◌, ◌<◌, inl, inr, List, [], ◌∷◌, length, slice_index, Option, Some, None, IfSome, arith}
use Rattle.dce_peel.specs.declared.item.Item.{Item}
use Rattle.dce_peel.specs.Rounds.{Stays, Leaves, Waits, Fits, FitsBy, Each}

module _ (tops : List ℕ) (t : ℕ → ℕ) (table : (n : ℕ) → n < length tops → slice_index tops n ≡ t n) where
  stays : (rounds r n : ℕ) → n < length tops → Stays (slice_index tops) rounds r n → Stays t rounds r n
  stays rounds r n h (inl k) = inl (omega (arith, k, table n h))
  stays rounds r n h (inr k) = inr (omega (arith, k, table n h))

  leaves : (r : ℕ) (f : Option ℕ) → IfSome f (λ n. n < length tops) → Leaves (slice_index tops) r f → Leaves t r f
  leaves r None h k = k
  leaves r (Some n) h k = omega (arith, k, table n h)

  waits : (rounds r : ℕ) (f : Option ℕ) → IfSome f (λ n. n < length tops) → Waits (slice_index tops) rounds r f → Waits t rounds r f
  waits rounds r None h k = tt
  waits rounds r (Some n) h (inl k) = inl (omega (arith, k, table n h))
  waits rounds r (Some n) h (inr k) = inr (omega (arith, k, table n h))

  -- an item that fits by the table
  fits : (rounds : ℕ) (i : Item) (r : ℕ) → FitsBy tops rounds i r → Fits t rounds i r
  fits rounds i r f = record {
    some = f.some;
    goes = λ h. leaves r i.name f.name (f.goes h);
    waits = waits rounds r i.name f.name f.waits;
    goers = λ n h. stays rounds r n (f.goers n h).0 (f.goers n h).1;
  }

  -- and all items
  pub each_fits : (rounds : ℕ) (items : List Item) (layers : List ℕ) → Each (FitsBy tops rounds) items layers → Each (Fits t rounds) items layers
  each_fits rounds [] [] h = tt
  each_fits rounds [] (r ∷ rs) h = h
  each_fits rounds (i ∷ is) [] h = h
  each_fits rounds (i ∷ is) (r ∷ rs) h = (fits rounds i r h.0, each_fits rounds is rs h.1)
