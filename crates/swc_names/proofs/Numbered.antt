-- The number of a name is where it stands among names that stand there once each.
use Rattle.std.proofs.Common.{◌≡◌, ℕ, zero, suc, ◌+◌, true, false, not, cond, List, [], ◌∷◌, length, slice_get, position, get_or, Option, Some, None, refl, sym, ap, ◌∙◌, arith}
use Rattle.std.proofs.lemmas.Bool.{lt-ltb}
use Rattle.std.proofs.lemmas.List.{length-map}
use Rattle.std.proofs.lemmas.List.Quantifiers.{position-Some}
use Rattle.std.proofs.lemmas.Option.{none-some, slice_get_within, slice_get-get_or, slice_get-map, slice_get_past}
use Rattle.std.specs.List.{IsDistinct, AllByRecursion, prefix_len}
use Rattle.std.specs.Borrow.{Bor}
use Rattle.std.specs.Slice.{IsItemAt}
use Rattle.std.specs.Prelude.{unwrap_or, option_map, option_copied, IfSome}
use Rattle.swc_ast.specs.Tree.{Name, same_name}
use Rattle.static_proofs.proofs.Names.{same_name_path, same_name_itself, same_name_swap}
use Rattle.swc_names.specs.Ids.{Id, id_name, ids}
use Rattle.swc_names.proofs.Distinct.{same_id}

walked : (x : Name) (ks : List Id) → prefix_len (λ k. not (same_name x (id_name k))) ks ≡ prefix_len (λ y. not (same_name x y)) (ids ks)
walked x [] = refl
walked x (k ∷ ks) = ap (λ n. cond (not (same_name x (id_name k))) (1 + n) 0) (walked x ks)

-- the number among names is that among names by themselves
pub by_name : (x : Name) (ks : List Id) → position (λ k. same_name x (id_name k)) ks ≡ position (same_name x) (ids ks)
by_name x ks = cc (walked x ks, sym (length-map ks id_name))

-- the name that has the number of a name is that name
pub named : (x : Name) (ns : List Name) (n : ℕ) → position (same_name x) ns ≡ Some n → slice_get ns n ≡ Some x
named x ns n is =
    let p = position-Some (same_name x) ns n x is in
    slice_get-get_or ns n x p.0 ∙ ap (λ y. Some y) (sym (same_name_path x (get_or ns n x) p.1))

apart : (j k : Id) (js : List Id) (m : ℕ) → AllByRecursion (λ i. same_id j i ≡ false) js → slice_get js m ≡ Some k → same_id j k ≡ false
apart j k [] m h there = absurd (none-some k there)
apart j k (i ∷ is) zero h there = sym (ap (same_id j) (ap (λ o. unwrap_or o i) there)) ∙ h.0
apart j k (i ∷ is) (suc m) h there = apart j k is m h.1 there

one_more : {a b : ℕ} → a ≡ b → 1 + a ≡ suc b
one_more e = omega (arith, e)

first : (k : Id) (ks : List Id) (n : ℕ) → IsDistinct same_id ks → slice_get ks n ≡ Some k → prefix_len (λ y. not (same_name (id_name k) y)) (ids ks) ≡ n
unfolding IsDistinct
first k [] n h there = absurd (none-some k there)
first k (i ∷ is) zero h there = ap (λ j. cond (not (same_name (id_name k) (id_name j))) (1 + prefix_len (λ y. not (same_name (id_name k) y)) (ids is)) 0) (ap (λ o. unwrap_or o i) there) ∙ ap (λ b. cond (not b) (1 + prefix_len (λ y. not (same_name (id_name k) y)) (ids is)) 0) (same_name_itself (id_name k))
first k (i ∷ is) (suc m) h there =
    let other : same_name (id_name k) (id_name i) ≡ false = same_name_swap (id_name k) (id_name i) ∙ apart i k is m h.0 there in
    ap (λ b. cond (not b) (1 + prefix_len (λ y. not (same_name (id_name k) y)) (ids is)) 0) other ∙ one_more (first k is m h.1 there)

-- the number of the name that has a number is that number
pub numbered : (k : Id) (ks : List Id) (n : ℕ) → IsDistinct same_id ks → slice_get ks n ≡ Some k → position (same_name (id_name k)) (ids ks) ≡ Some n
numbered k ks n h there =
    let len : length (ids ks) ≡ length ks = length-map ks id_name in
    cc (first k ks n h there, len) ∙ ap (λ b. cond b (Some n) None) (lt-ltb n (length ks) (slice_get_within ks n k there))

-- the number of a name that was put in is where it is stored
pub stored_at : (x : Name) (i k : Id) (ks : List Id) (n : ℕ) → id_name i ≡ x → IsDistinct same_id ks → slice_get ks n ≡ Some k → same_id i k ≡ true → position (same_name x) (ids ks) ≡ Some n
stored_at x i k ks n is d there same = ap (λ y. position (same_name y) (ids ks)) (sym is ∙ same_name_path (id_name i) (id_name k) same) ∙ numbered k ks n d there

-- the same of answers

pub if_named : (x : Name) (ns : List Name) (r : Option ℕ) → r ≡ position (same_name x) ns → IfSome r (λ n. slice_get ns n ≡ Some x)
if_named x ns None h = tt
if_named x ns (Some n) h = named x ns n (sym h)

lent_at : (ks : List Id) (n : ℕ) (r : Option (Bor Id)) → IsItemAt ks n r → option_copied r ≡ slice_get ks n
lent_at ks n None h = sym (slice_get_past ks n h.3)
lent_at ks n (Some i) h = ap (λ k. Some k) h.1 ∙ sym (slice_get-get_or ks n i.now h.3.0)

pub lent : (ks : List Id) (ns : List Name) (n : ℕ) (r : Option (Bor Id)) → ids ks ≡ ns → IsItemAt ks n r → option_map (λ i. id_name i.now) r ≡ slice_get ns n
lent ks ns n r is h = copied r ∙ ap (option_map id_name) (lent_at ks n r h) ∙ sym (slice_get-map id_name ks n) ∙ ap (λ ms. slice_get ms n) is
  where
    copied : (r : Option (Bor Id)) → option_map (λ i. id_name i.now) r ≡ option_map id_name (option_copied r)
    copied None = refl
    copied (Some i) = refl

pub if_numbered : (ks : List Id) (ns : List Name) (n : ℕ) (r : Option (Bor Id)) → ids ks ≡ ns → IsDistinct same_id ks → IsItemAt ks n r → IfSome r (λ i. position (same_name (id_name i.now)) ns ≡ Some n)
if_numbered ks ns n None is d h = tt
if_numbered ks ns n (Some i) is d h = sym (ap (position (same_name (id_name i.now))) is) ∙ numbered i.now ks n d (sym (lent_at ks n (Some i) h))
