-- Items of names by their numbers.
use Rattle.std.proofs.Common.{◌≡◌, ℕ, zero, suc, ◌<◌, ◌≤◌, Bool, true, false, List, [], ◌∷◌, ◌++◌, length, get_or, slice_get, slice_set, position, Option, Some, None, refl, sym, ap, ◌∙◌, arith}
use Rattle.std.specs.Prelude.{if◌then◌else◌, option_map, option_and_then}
use Rattle.std.proofs.lemmas.Bool.{false≢true}
use Rattle.std.proofs.lemmas.List.Quantifiers.{position-Some}
use Rattle.std.proofs.lemmas.Option.{same_Some, slice_get-get_or, slice_get_past}
use Rattle.swc_ast.specs.Tree.{Name, same_name}
use Rattle.static_proofs.proofs.Names.{same_name_path, same_name_itself}

-- items that are all one
abbrev pub all_are : {T : Type 0} → T → List T → Type 0
all_are w [] = Unit {0}
all_are w (t ∷ ts) = (t ≡ w) × all_are w ts

pub one_more : {T : Type 0} (w : T) (ts : List T) → all_are w ts → all_are w (ts ++ w ∷ [])
one_more w [] h = (refl, tt)
one_more w (t ∷ ts) h = (h.0, one_more w ts h.1)

all_at : {T : Type 0} (w : T) (ts : List T) (n : ℕ) → all_are w ts → n < length ts → slice_get ts n ≡ Some w
all_at w [] n h i = absurd (omega (arith, i))
all_at w (t ∷ ts) zero h i = ap (λ u. Some u) h.0
all_at w (t ∷ ts) (suc n) h i = all_at w ts n h.1 (omega (arith, i))

-- the name that has the number of a name is that name
named : (x : Name) (ns : List Name) (n : ℕ) → position (same_name x) ns ≡ Some n → slice_get ns n ≡ Some x
named x ns n is =
    let p = position-Some (same_name x) ns n x is in
    slice_get-get_or ns n x p.0 ∙ ap (λ y. Some y) (sym (same_name_path x (get_or ns n x) p.1))

other_number : (x y : Name) (ns : List Name) (m n : ℕ) → same_name y x ≡ false → position (same_name x) ns ≡ Some m → position (same_name y) ns ≡ Some n → m ≡ n → ⊥
other_number x y ns m n apart at_x at_y same =
    let is : x ≡ y = same_Some x y (sym (named x ns m at_x) ∙ ap (slice_get ns) same ∙ named y ns n at_y) in
    false≢true (sym apart ∙ ap (same_name y) is ∙ same_name_itself y)

-- the same item for each name
pub all_alike : {T : Type 0} (w : T) (ts : List T) (ns : List Name) → all_are w ts → length ns ≤ length ts → (x : Name) → option_and_then (slice_get ts) (position (same_name x) ns) ≡ option_map (λ n. w) (position (same_name x) ns)
all_alike w ts ns h i x = by (position (same_name x) ns) refl
  where
    by : (o : Option ℕ) → position (same_name x) ns ≡ o → option_and_then (slice_get ts) o ≡ option_map (λ n. w) o
    by None e = refl
    by (Some n) e = all_at w ts n h (omega (arith, i, (position-Some (same_name x) ns n x e).0))

-- an item is written
written : {T : Type 0} (ts : List T) (n : ℕ) (w : T) → n < length ts → slice_get (slice_set ts n w) n ≡ Some w
written [] n w h = absurd (omega (arith, h))
written (t ∷ ts) zero w h = refl
written (t ∷ ts) (suc n) w h = written ts n w (omega (arith, h))

there : {T : Type 0} (ts : List T) (n : ℕ) (w : T) → n < length ts → option_map (λ t. w) (slice_get ts n) ≡ Some w
there [] n w h = absurd (omega (arith, h))
there (t ∷ ts) zero w h = refl
there (t ∷ ts) (suc n) w h = there ts n w (omega (arith, h))

untouched : {T : Type 0} (ts : List T) (n k : ℕ) (w : T) → (k ≡ n → ⊥) → slice_get (slice_set ts n w) k ≡ slice_get ts k
untouched [] n k w h = refl
untouched (t ∷ ts) zero zero w h = absurd (h refl)
untouched (t ∷ ts) zero (suc k) w h = refl
untouched (t ∷ ts) (suc n) zero w h = refl
untouched (t ∷ ts) (suc n) (suc k) w h = untouched ts n k w (λ e. h (ap suc e))

itself : {T : Type 0} (o : Option T) → o ≡ option_map (λ t. t) o
itself None = refl
itself (Some t) = refl

-- the item of a name is changed
pub changed : {T : Type 0} (ns : List Name) (ts : List T) (y : Name) (n : ℕ) (w : T) → position (same_name y) ns ≡ Some n → n < length ts → (x : Name)
    → option_and_then (slice_get (slice_set ts n w)) (position (same_name x) ns) ≡ option_map (λ t. if same_name y x then w else t) (option_and_then (slice_get ts) (position (same_name x) ns))
changed ns ts y n w is within x = by (same_name y x) refl
  where
    own : same_name y x ≡ true → position (same_name x) ns ≡ Some n
    own e = ap (λ z. position (same_name z) ns) (sym (same_name_path y x e)) ∙ is

    other : same_name y x ≡ false → (o : Option ℕ) → position (same_name x) ns ≡ o → option_and_then (slice_get (slice_set ts n w)) o ≡ option_and_then (slice_get ts) o
    other e None i = refl
    other e (Some m) i = untouched ts n m w (other_number x y ns m n e i is)

    by : (b : Bool) → same_name y x ≡ b → option_and_then (slice_get (slice_set ts n w)) (position (same_name x) ns) ≡ option_map (λ t. if b then w else t) (option_and_then (slice_get ts) (position (same_name x) ns))
    by true e = ap (option_and_then (slice_get (slice_set ts n w))) (own e) ∙ written ts n w within ∙ sym (there ts n w within) ∙ sym (ap (λ o. option_map (λ t. w) (option_and_then (slice_get ts) o)) (own e))
    by false e = other e (position (same_name x) ns) refl ∙ itself (option_and_then (slice_get ts) (position (same_name x) ns))

-- a name without an item
pub unchanged : {T : Type 0} (ns : List Name) (ts : List T) (y : Name) (n : ℕ) (w : T) → position (same_name y) ns ≡ Some n → length ts ≤ n → (x : Name)
    → option_and_then (slice_get ts) (position (same_name x) ns) ≡ option_map (λ t. if same_name y x then w else t) (option_and_then (slice_get ts) (position (same_name x) ns))
unchanged ns ts y n w is past x = by (same_name y x) refl
  where
    none : same_name y x ≡ true → option_and_then (slice_get ts) (position (same_name x) ns) ≡ None
    none e = ap (option_and_then (slice_get ts)) (ap (λ z. position (same_name z) ns) (sym (same_name_path y x e)) ∙ is) ∙ slice_get_past ts n past

    by : (b : Bool) → same_name y x ≡ b → option_and_then (slice_get ts) (position (same_name x) ns) ≡ option_map (λ t. if b then w else t) (option_and_then (slice_get ts) (position (same_name x) ns))
    by true e = none e ∙ sym (ap (option_map (λ t. w)) (none e))
    by false e = itself (option_and_then (slice_get ts) (position (same_name x) ns))
