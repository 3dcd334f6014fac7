-- Layers go one by one, and everything else rests.
use Rattle.std.proofs.Common.{ℕ, zero, suc, ◌+◌, ◌-◌, ◌<◌, ◌≤◌, ◌≡◌, inl, inr, Bool, true, false, ◌||◌, if◌then◌else◌, List, [], ◌∷◌, Option, Some, None, refl, sym, ap, subst, ◌∙◌, arith}
use Rattle.std.specs.Prelude.{nat_lt}
use Rattle.std.proofs.lemmas.Bool.{false≢true, or_from, ltb-true, ltb-false}
use Rattle.swc_ast.specs.Tree.{Text, Name, Label, Module, Tree, node, Forest, ε, ◌⊳◌, label_of, children_of}
use Rattle.swc_ast.specs.Valid.{count}
use Rattle.tree_walk.specs.Walks.{Walks, AllWalk, nothing, both, ListMade, tidied}
use Rattle.walk_proofs.specs.Meant.{Sifts, sifted, stays_there, goes_there}
use Rattle.dce_rules.specs.Shakes.{Shaker, item_goes, some_item_goes, ItemGoes, items_go, shake_pass}
use Rattle.dce_rules.specs.Uses.{free_to_go}
use Rattle.dce_layer_proofs.specs.Goers.{goers, goes_with, inner_goers}
use Rattle.dce_layer_proofs.specs.Layers.{Layers, items, live, Stays, Leaves, Waits, Placed, AllPlaced, has_layer, AllStay}
use Rattle.dce_layer_proofs.specs.Walked.{shaker_of}
use Rattle.dce_layer_proofs.proofs.Live.{attained, kept}
use Rattle.dce_layer_proofs.proofs.Quiet.{Quiet, item_still, walks}
use Rattle.dce_layer_proofs.proofs.Parts.{Still, quiet_whole, held_still}
use Rattle.dce_layer_proofs.proofs.Going.{Went, went}

-- what stays up to a round, stays before
stays_before : (retained : List Text) (ps : Layers) (rounds r s : ℕ) (x : Name) → s ≤ r → Stays retained ps rounds r x → Stays retained ps rounds s x
stays_before retained ps rounds r s x h (inl e) = inl e
stays_before retained ps rounds r s x h (inr (inl k)) = inr (inl (omega (arith, h, k)))
stays_before retained ps rounds r s x h (inr (inr k)) = inr (inr k)

-- The shaker walks a module in front of each round, of which it knows what it would of the items that are left then.
module _ (mark : ℕ) (drops : Bool) (retained : List Text) (at : ℕ → Tree) (all : Layers) (rounds : ℕ) (frees : (r : ℕ) → r ≤ rounds → (x : Name) → free_to_go retained (at r) x ≡ free_to_go retained (node Module [] (live r all)) x) where
  abbrev S : ℕ → Shaker
  S r = shaker_of mark drops retained (at r)

  abbrev Well : Tree → ℕ → Type 0
  Well t n = Placed mark retained all rounds t n

  stays : (r : ℕ) (x : Name) → 0 < r → r ≤ rounds → Stays retained all rounds r x → free_to_go retained (at r) x ≡ false
  stays r x s m h = frees r m x ∙ kept retained [] rounds r all x s m h

  -- one item
  quiet_below : (r : ℕ) (t : Tree) (n : ℕ) → 0 < r → r ≤ rounds → r ≤ n → Well t n → Quiet (S r) (inner_goers mark (label_of t) (children_of t))
  quiet_below r t n s m h p = record { still = λ x i. stays r x s m (stays_before retained all rounds n r x h (p.goers x i)) }

  still_at : (r : ℕ) (o : Option Name) → 0 < r → r ≤ rounds → Waits retained all rounds r o → Still (S r) o
  still_at r (Some x) s m w = stays r x s m w
  still_at r None s m w = tt

  one_still : (r : ℕ) (t : Tree) (n : ℕ) → 0 < r → r ≤ rounds → r < n → Well t n → Still (S r) (goes_with mark (label_of t) (children_of t))
  one_still r t n s m h p = still_at r (goes_with mark (label_of t) (children_of t)) s m (p.waits r h)

  one_quiet : (r : ℕ) (t : Tree) (n : ℕ) → 0 < r → r ≤ rounds → r < n → Well t n → Quiet (S r) (goers t)
  one_quiet r t n s m h p = quiet_whole mark t (one_still r t n s m h p) (quiet_below r t n s m (omega (arith, h)) p)

  item_rests : (r : ℕ) (t : Tree) (n : ℕ) → 0 < r → r ≤ rounds → r < n → Well t n → Walks (shake_pass (S r)) false t t
  item_rests r t n s m h p = walks (S r) t p.tight (one_quiet r t n s m h p)

  item_stays : (r : ℕ) (t : Tree) (n : ℕ) → 0 < r → r ≤ rounds → r < n → Well t n → item_goes (S r) t ≡ false
  item_stays r t n s m h p = item_still t p.solid (held_still (S r) mark t (one_still r t n s m h p)) (one_quiet r t n s m h p)

  item_went : (r : ℕ) (t : Tree) (n : ℕ) → 0 < r → r ≤ rounds → n ≡ r → Well t n → Went (S r) t
  item_went r t n s m is p =
      went mark drops retained (at r) all r (frees r m) t p.tight (quiet_below r t n s m (omega (arith, is)) p) (subst (λ k. Leaves retained all k (goes_with mark (label_of t) (children_of t))) is (p.goes (omega (arith, is, m))))

  -- Items are walked, and those that go are gone.
  record Passed (r : ℕ) (ts us : Forest) : Type 0 where
    between : Forest
    changed : Bool
    walk : AllWalk (shake_pass (S r)) changed ts between
    sifts : Sifts (ItemGoes (S r)) between us
    as_many : count between ≡ count ts

  one_stays : (r : ℕ) (t : Tree) (ts us : Forest) → Walks (shake_pass (S r)) false t t → Passed r ts us → Passed r (t ⊳ ts) (t ⊳ us)
  one_stays r t ts us h w = record { between = t ⊳ w.between; changed = w.changed; walk = both h w.walk; sifts = stays_there w.sifts; as_many = ap suc w.as_many }

  one_goes : (r : ℕ) (t : Tree) (ts us : Forest) → Went (S r) t → Passed r ts us → Passed r (t ⊳ ts) us
  one_goes r t ts us h w = record { between = h.becomes ⊳ w.between; changed = h.changed || w.changed; walk = both h.walk w.walk; sifts = goes_there h.goes w.sifts; as_many = ap suc w.as_many }

  walk_all : (r : ℕ) (ps : Layers) → 0 < r → r ≤ rounds → AllPlaced mark retained all rounds ps → Passed r (live r ps) (live (r + 1) ps)
  walk_all r [] s m h = record { between = ε; changed = false; walk = nothing; sifts = sifted; as_many = refl }
  walk_all r (p ∷ ps) s m h = by (nat_lt p.1 r) refl (nat_lt p.1 (r + 1)) refl (walk_all r ps s m h.1)
    where
      by : (b : Bool) → nat_lt p.1 r ≡ b → (d : Bool) → nat_lt p.1 (r + 1) ≡ d → Passed r (live r ps) (live (r + 1) ps) → Passed r (if b then live r ps else (p.0 ⊳ live r ps)) (if d then live (r + 1) ps else (p.0 ⊳ live (r + 1) ps))
      by true e true f w = w
      by true e false f w = absurd (omega (arith, ltb-true p.1 r e, ltb-false p.1 (r + 1) f))
      by false e true f w = one_goes r p.0 (live r ps) (live (r + 1) ps) (item_went r p.0 p.1 s m (omega (arith, ltb-false p.1 r e, ltb-true p.1 (r + 1) f)) h.0) w
      by false e false f w = one_stays r p.0 (live r ps) (live (r + 1) ps) (item_rests r p.0 p.1 s m (omega (arith, ltb-false p.1 (r + 1) f)) h.0) w

  -- a layer that some item has
  fewer : (r : ℕ) (ps : Layers) → (count (live (r + 1) ps) ≤ count (live r ps)) × (has_layer r ps ≡ true → count (live (r + 1) ps) < count (live r ps))
  fewer r [] = (omega arith, λ h. absurd (false≢true h))
  fewer r (p ∷ ps) = by (nat_lt p.1 r) refl (nat_lt r p.1) refl (nat_lt p.1 (r + 1)) refl (fewer r ps)
    where
      by : (b : Bool) → nat_lt p.1 r ≡ b → (c : Bool) → nat_lt r p.1 ≡ c → (d : Bool) → nat_lt p.1 (r + 1) ≡ d
          → (count (live (r + 1) ps) ≤ count (live r ps)) × (has_layer r ps ≡ true → count (live (r + 1) ps) < count (live r ps))
          → (count (if d then live (r + 1) ps else (p.0 ⊳ live (r + 1) ps)) ≤ count (if b then live r ps else (p.0 ⊳ live r ps))) × ((if b then has_layer r ps else (if c then has_layer r ps else true)) ≡ true → count (if d then live (r + 1) ps else (p.0 ⊳ live (r + 1) ps)) < count (if b then live r ps else (p.0 ⊳ live r ps)))
      by true e c f true g k = k
      by true e c f false g k = absurd (omega (arith, ltb-true p.1 r e, ltb-false p.1 (r + 1) g))
      by false e true f true g k = absurd (omega (arith, ltb-true r p.1 f, ltb-true p.1 (r + 1) g))
      by false e true f false g k = (omega (arith, k.0), λ h. omega (arith, k.1 h))
      by false e false f true g k = (omega (arith, k.0), λ h. omega (arith, k.0))
      by false e false f false g k = absurd (omega (arith, ltb-false r p.1 f, ltb-false p.1 (r + 1) g))

  differ : (r : ℕ) (ps : Layers) (ts : Forest) → count ts ≡ count (live r ps) → has_layer r ps ≡ true → live (r + 1) ps ≡ ts → ⊥
  differ r ps ts n h e = omega (arith, (fewer r ps).1 h, n, ap count e)

  -- the layer before
  step : (r : ℕ) (o : Option Name) → 1 < r → r ≤ rounds → Leaves retained all r o → Waits retained all rounds (r - 1) o → has_layer (r - 1) all ≡ true
  step r (Some x) s m h (inl e) = absurd (false≢true (sym h.0 ∙ e))
  step r (Some x) s m h (inr (inl k)) = attained x (r - 1) all (omega (arith, s)) (omega (arith, k, h.1))
  step r (Some x) s m h (inr (inr k)) = absurd (omega (arith, k, h.1, m))
  step r None s m h w = absurd h

  before : (r : ℕ) (ps : Layers) → 1 < r → r ≤ rounds → AllPlaced mark retained all rounds ps → has_layer r ps ≡ true → has_layer (r - 1) all ≡ true
  before r [] s m h i = absurd (false≢true i)
  before r (p ∷ ps) s m h i = by (nat_lt p.1 r) refl (nat_lt r p.1) refl i (before r ps s m h.1)
    where
      by : (b : Bool) → nat_lt p.1 r ≡ b → (c : Bool) → nat_lt r p.1 ≡ c → (if b then has_layer r ps else (if c then has_layer r ps else true)) ≡ true → (has_layer r ps ≡ true → has_layer (r - 1) all ≡ true) → has_layer (r - 1) all ≡ true
      by true e c f i k = k i
      by false e true f i k = k i
      by false e false f i k =
          let is : p.1 ≡ r = omega (arith, ltb-false p.1 r e, ltb-false r p.1 f) in
          step r (goes_with mark (label_of p.0) (children_of p.0)) s m (subst (λ n. Leaves retained all n (goes_with mark (label_of p.0) (children_of p.0))) is (h.0.goes (omega (arith, is, m)))) (h.0.waits (r - 1) (omega (arith, is, s)))

  pub each : (k r : ℕ) → r + k ≡ rounds → 0 < r → AllPlaced mark retained all rounds all → has_layer rounds all ≡ true → has_layer r all ≡ true
  each zero r e s h i = subst (λ n. has_layer n all ≡ true) (omega (arith, e)) i
  each (suc k) r e s h i = subst (λ n. has_layer n all ≡ true) (omega arith) (before (r + 1) all (omega (arith, s)) (omega (arith, e)) h (each k (r + 1) (omega (arith, e)) (omega arith) h i))

  -- items that stay in all rounds

  pub rest_all : (r : ℕ) (ps : Layers) → 0 < r → r ≤ rounds → AllStay rounds ps → AllPlaced mark retained all rounds ps → AllWalk (shake_pass (S r)) false (items ps) (items ps)
  rest_all r [] s m a h = nothing
  rest_all r (p ∷ ps) s m a h = both (item_rests r p.0 p.1 s m (omega (arith, m, a.0)) h.0) (rest_all r ps s m a.1 h.1)

  pub none_goes : (r : ℕ) (ps : Layers) → 0 < r → r ≤ rounds → AllStay rounds ps → AllPlaced mark retained all rounds ps → some_item_goes (S r) (items ps) ≡ false
  none_goes r [] s m a h = refl
  none_goes r (p ∷ ps) s m a h = or_from (item_goes (S r) p.0) (some_item_goes (S r) (items ps)) (item_stays r p.0 p.1 s m (omega (arith, m, a.0)) h.0) (none_goes r ps s m a.1 h.1)

  -- a round of others

  pub go_all : (l : Label) (r : ℕ) (ps : Layers) → 0 < r → r ≤ rounds → AllPlaced mark retained all rounds ps → has_layer r ps ≡ true → ListMade (shake_pass (S r)) l true (live r ps) (live (r + 1) ps)
  go_all l r ps s m h i = let w = walk_all r ps s m h in tidied w.walk (items_go w.sifts (differ r ps w.between w.as_many i))
