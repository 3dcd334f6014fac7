-- The order in which fields are put: fields of different keys may be put in any order where one of them is an index or
-- is there already, and a record that is put field by field may be put before another.
use Rattle.std.proofs.Common.{◌≡◌, ℕ, ◌<◌, Bool, true, false, ◌&&◌, if◌then◌else◌, List, [], ◌∷◌, Option, Some, None, refl, sym, ap, ap₂, subst, ◌∙◌, ⊎_elim, arith, nat_lt, bytes_eq, decimal, ◌-◌, ◌^◌, ◌⊎◌, inl, inr}
use Rattle.std.proofs.lemmas.Bool.{false≢true, and_parts, cases_order, lt-ltb, le-ltb, ltb-true}
use Rattle.std.proofs.lemmas.Option.{none-some, cond_some}
use Rattle.swc_ast.specs.Value.{Value, Fields, nofield, field}
use Rattle.swc_ast.specs.Operators.{field_value, index_before, index_of, key_before, insert_field, replace_field, put_or_replace, put_field, if_some, canonical, digits_value}
use Rattle.expr_proofs.proofs.Records.{same_bytes, equal_bytes, other_way, put_same, put_other, none_parts}

-- keys in order

before_chain : (i j l : Option ℕ) → index_before i j ≡ true → index_before j l ≡ true → index_before i l ≡ true
before_chain None j l h k = absurd (false≢true h)
before_chain (Some i) None l h k = absurd (false≢true k)
before_chain (Some i) (Some j) None h k = refl
before_chain (Some i) (Some j) (Some l) h k = let a : i < j = ltb-true i j h in let b : j < l = ltb-true j l k in lt-ltb i l (omega arith)

before_once : (i j : Option ℕ) → index_before i j ≡ true → index_before j i ≡ false
before_once None j h = absurd (false≢true h)
before_once (Some i) None h = refl
before_once (Some i) (Some j) h = let a : i < j = ltb-true i j h in le-ltb j i (omega arith)

canonical_is : (k : List ℕ) (o : Option ℕ) (i : ℕ) → if_some o (canonical k) ≡ Some i → decimal i ≡ k
canonical_is k None i h = absurd (none-some i h)
canonical_is k (Some n) i h =
    let p = cond_some (bytes_eq (decimal n) k && nat_lt n (2 ^ 32 - 1)) n i h in
    let q = and_parts (bytes_eq (decimal n) k) (nat_lt n (2 ^ 32 - 1)) p.0 in
    subst (λ m. decimal m ≡ k) p.1 (equal_bytes (decimal n) k q.0)

-- a key that is an index is the text of its index
pub index_is : (k : List ℕ) (i : ℕ) → index_of k ≡ Some i → decimal i ≡ k
unfolding index_of
index_is [] i h = absurd (none-some i h)
index_is (c ∷ cs) i h = canonical_is (c ∷ cs) (digits_value 0 (c ∷ cs)) i h

-- of an index and another key one stands before the other
pub one_before : (k m : List ℕ) (i : ℕ) → index_of k ≡ Some i → bytes_eq k m ≡ false → (key_before k m ≡ true) ⊎ (key_before m k ≡ true)
one_before k m i h apart = by_other (index_of m) refl
  where
    by_other : (o : Option ℕ) → index_of m ≡ o → (key_before k m ≡ true) ⊎ (key_before m k ≡ true)
    by_other None e = inl (ap₂ index_before h e)
    by_other (Some j) e = ⊎_elim
        (λ q. absurd (false≢true (sym apart ∙ ap (λ x. bytes_eq x m) (sym (index_is k i h) ∙ ap decimal q ∙ index_is m j e) ∙ same_bytes m)))
        (⊎_elim (λ q. inl (ap₂ index_before h e ∙ lt-ltb i j q)) (λ q. inr (ap₂ index_before e h ∙ lt-ltb j i q)))
        (cases_order i j)

-- inserts

insert_at : (k : List ℕ) (v : Value) (l : List ℕ) (x : Value) (fs : Fields) (b : Bool) → key_before k l ≡ b → insert_field k v (field l x fs) ≡ (if b then field k v (field l x fs) else field l x (insert_field k v fs))
insert_at k v l x fs b e = ap (λ z. if z then field k v (field l x fs) else field l x (insert_field k v fs)) e

insert_before : (k m : List ℕ) (v y : Value) (fs : Fields) → key_before k m ≡ true → insert_field k v (insert_field m y fs) ≡ insert_field m y (insert_field k v fs)
insert_before k m v y nofield h = insert_at k v m y nofield true h ∙ sym (insert_at m y k v nofield false (before_once (index_of k) (index_of m) h))
insert_before k m v y (field l x fs) h = by_places (key_before m l) (key_before k l) refl refl (insert_before k m v y fs h)
  where
    by_places : (a b : Bool) → key_before m l ≡ a → key_before k l ≡ b → insert_field k v (insert_field m y fs) ≡ insert_field m y (insert_field k v fs) → insert_field k v (if a then field m y (field l x fs) else field l x (insert_field m y fs)) ≡ insert_field m y (if b then field k v (field l x fs) else field l x (insert_field k v fs))
    by_places true true ea eb i = insert_at k v m y (field l x fs) true h ∙ ap (field k v) (sym (insert_at m y l x fs true ea)) ∙ sym (insert_at m y k v (field l x fs) false (before_once (index_of k) (index_of m) h))
    by_places false true ea eb i = insert_at k v l x (insert_field m y fs) true eb ∙ ap (field k v) (sym (insert_at m y l x fs false ea)) ∙ sym (insert_at m y k v (field l x fs) false (before_once (index_of k) (index_of m) h))
    by_places true false ea eb i = absurd (false≢true (sym eb ∙ before_chain (index_of k) (index_of m) (index_of l) h ea))
    by_places false false ea eb i = insert_at k v l x (insert_field m y fs) false eb ∙ ap (field l x) i ∙ sym (insert_at m y l x (insert_field k v fs) false ea)

-- replaces

replace_at : (k : List ℕ) (v : Value) (l : List ℕ) (x : Value) (fs : Fields) (b : Bool) → bytes_eq l k ≡ b → replace_field k v (field l x fs) ≡ (if b then field l v fs else field l x (replace_field k v fs))
replace_at k v l x fs b e = ap (λ z. if z then field l v fs else field l x (replace_field k v fs)) e

replace_again : (k : List ℕ) (v x : Value) (fs : Fields) → replace_field k v (replace_field k x fs) ≡ replace_field k v fs
replace_again k v x nofield = refl
replace_again k v x (field l y fs) = by_key (bytes_eq l k) refl (replace_again k v x fs)
  where
    by_key : (b : Bool) → bytes_eq l k ≡ b → replace_field k v (replace_field k x fs) ≡ replace_field k v fs → replace_field k v (if b then field l x fs else field l y (replace_field k x fs)) ≡ (if b then field l v fs else field l y (replace_field k v fs))
    by_key true e i = replace_at k v l x fs true e
    by_key false e i = replace_at k v l y (replace_field k x fs) false e ∙ ap (field l y) i

replace_both : (k m : List ℕ) (v y : Value) (fs : Fields) → bytes_eq k m ≡ false → replace_field k v (replace_field m y fs) ≡ replace_field m y (replace_field k v fs)
replace_both k m v y nofield apart = refl
replace_both k m v y (field l x fs) apart = by_keys (bytes_eq l m) (bytes_eq l k) refl refl (replace_both k m v y fs apart)
  where
    by_keys : (a b : Bool) → bytes_eq l m ≡ a → bytes_eq l k ≡ b → replace_field k v (replace_field m y fs) ≡ replace_field m y (replace_field k v fs) → replace_field k v (if a then field l y fs else field l x (replace_field m y fs)) ≡ replace_field m y (if b then field l v fs else field l x (replace_field k v fs))
    by_keys true true ea eb i = absurd (false≢true (sym apart ∙ ap (λ z. bytes_eq z m) (sym (equal_bytes l k eb)) ∙ ea))
    by_keys true false ea eb i = replace_at k v l y fs false eb ∙ sym (replace_at m y l x (replace_field k v fs) true ea)
    by_keys false true ea eb i = replace_at k v l x (replace_field m y fs) true eb ∙ sym (replace_at m y l v fs false ea)
    by_keys false false ea eb i = replace_at k v l x (replace_field m y fs) false eb ∙ ap (field l x) i ∙ sym (replace_at m y l x (replace_field k v fs) false ea)

-- a replace of one key and an insert of another
replace_insert : (k m : List ℕ) (v y : Value) (fs : Fields) → bytes_eq k m ≡ false → replace_field k v (insert_field m y fs) ≡ insert_field m y (replace_field k v fs)
replace_insert k m v y nofield apart = replace_at k v m y nofield false (other_way k m apart)
replace_insert k m v y (field l x fs) apart = by_both (key_before m l) (bytes_eq l k) refl refl (replace_insert k m v y fs apart)
  where
    by_both : (a b : Bool) → key_before m l ≡ a → bytes_eq l k ≡ b → replace_field k v (insert_field m y fs) ≡ insert_field m y (replace_field k v fs) → replace_field k v (if a then field m y (field l x fs) else field l x (insert_field m y fs)) ≡ insert_field m y (if b then field l v fs else field l x (replace_field k v fs))
    by_both true true ea eb i = replace_at k v m y (field l x fs) false (other_way k m apart) ∙ ap (field m y) (replace_at k v l x fs true eb) ∙ sym (insert_at m y l v fs true ea)
    by_both true false ea eb i = replace_at k v m y (field l x fs) false (other_way k m apart) ∙ ap (field m y) (replace_at k v l x fs false eb) ∙ sym (insert_at m y l x (replace_field k v fs) true ea)
    by_both false true ea eb i = replace_at k v l x (insert_field m y fs) true eb ∙ sym (insert_at m y l v fs false ea)
    by_both false false ea eb i = replace_at k v l x (insert_field m y fs) false eb ∙ ap (field l x) i ∙ sym (insert_at m y l x (replace_field k v fs) false ea)

-- puts

put_new : (fs : Fields) (k : List ℕ) (v : Value) → field_value fs k ≡ None → put_field fs k v ≡ insert_field k v fs
put_new fs k v h = ap (λ o. put_or_replace o fs k v) h

put_old : (fs : Fields) (k : List ℕ) (v w : Value) → field_value fs k ≡ Some w → put_field fs k v ≡ replace_field k v fs
put_old fs k v w h = ap (λ o. put_or_replace o fs k v) h

-- two keys, where both are new only if one of them is an index
pub put_both : (fs : Fields) (k m : List ℕ) (v y : Value) → bytes_eq k m ≡ false → (field_value fs k ≡ None → (key_before k m ≡ true) ⊎ (key_before m k ≡ true)) → put_field (put_field fs m y) k v ≡ put_field (put_field fs k v) m y
put_both fs k m v y apart order = by_old (field_value fs k) (field_value fs m) refl refl
  where
    same_m : field_value (put_field fs k v) m ≡ field_value fs m
    same_m = put_other fs k m v apart

    same_k : field_value (put_field fs m y) k ≡ field_value fs k
    same_k = put_other fs m k y (other_way k m apart)

    by_old : (i j : Option Value) → field_value fs k ≡ i → field_value fs m ≡ j → put_field (put_field fs m y) k v ≡ put_field (put_field fs k v) m y
    by_old (Some a) (Some b) ek em =
        put_old (put_field fs m y) k v a (same_k ∙ ek) ∙ ap (replace_field k v) (put_old fs m y b em) ∙ replace_both k m v y fs apart
        ∙ sym (put_old (put_field fs k v) m y b (same_m ∙ em) ∙ ap (replace_field m y) (put_old fs k v a ek))
    by_old (Some a) None ek em =
        put_old (put_field fs m y) k v a (same_k ∙ ek) ∙ ap (replace_field k v) (put_new fs m y em) ∙ replace_insert k m v y fs apart
        ∙ sym (put_new (put_field fs k v) m y (same_m ∙ em) ∙ ap (insert_field m y) (put_old fs k v a ek))
    by_old None (Some b) ek em =
        put_new (put_field fs m y) k v (same_k ∙ ek) ∙ ap (insert_field k v) (put_old fs m y b em) ∙ sym (replace_insert m k y v fs (other_way k m apart))
        ∙ sym (put_old (put_field fs k v) m y b (same_m ∙ em) ∙ ap (replace_field m y) (put_new fs k v ek))
    by_old None None ek em =
        put_new (put_field fs m y) k v (same_k ∙ ek) ∙ ap (insert_field k v) (put_new fs m y em) ∙ ⊎_elim (insert_before k m v y fs) (λ q. sym (insert_before m k y v fs q)) (order ek)
        ∙ sym (put_new (put_field fs k v) m y (same_m ∙ em) ∙ ap (insert_field m y) (put_new fs k v ek))

pub put_again : (fs : Fields) (k : List ℕ) (v x : Value) → put_field (put_field fs k x) k v ≡ put_field fs k v
put_again fs k v x = by_old (field_value fs k) refl
  where
    -- a key that was inserted is replaced where it stands
    replaced : (gs : Fields) → field_value gs k ≡ None → replace_field k v (insert_field k x gs) ≡ insert_field k v gs
    replaced nofield h = replace_at k v k x nofield true (same_bytes k)
    replaced (field l y gs) h = let p = none_parts l k y gs h in by_place (key_before k l) p.0 (replaced gs p.1)
      where
        by_place : (b : Bool) → bytes_eq l k ≡ false → replace_field k v (insert_field k x gs) ≡ insert_field k v gs → replace_field k v (if b then field k x (field l y gs) else field l y (insert_field k x gs)) ≡ (if b then field k v (field l y gs) else field l y (insert_field k v gs))
        by_place true e i = replace_at k v k x (field l y gs) true (same_bytes k)
        by_place false e i = replace_at k v l y (insert_field k x gs) false e ∙ ap (field l y) i

    by_old : (o : Option Value) → field_value fs k ≡ o → put_field (put_field fs k x) k v ≡ put_field fs k v
    by_old None e = put_old (put_field fs k x) k v x (put_same fs k x) ∙ ap (replace_field k v) (put_new fs k x e) ∙ replaced fs e ∙ sym (put_new fs k v e)
    by_old (Some w) e = put_old (put_field fs k x) k v x (put_same fs k x) ∙ ap (replace_field k v) (put_old fs k x w e) ∙ replace_again k v x fs ∙ sym (put_old fs k v w e)
