-- Laws of the fields of records: what a key reads after a field was put, and the order in which fields are put.
use Rattle.std.specs.Cmp.Lexicographic.{bytes_decides}
use Rattle.std.proofs.Common.{◌≡◌, ℕ, Bool, true, false, if◌then◌else◌, List, Option, Some, None, refl, sym, ap, subst, ◌∙◌, bytes_eq}
use Rattle.std.proofs.lemmas.Bool.{false≢true, false_from_ne_true}
use Rattle.std.proofs.lemmas.Option.{none-some}
use Rattle.swc_ast.specs.Value.{Value, Fields, nofield, field}
use Rattle.swc_ast.specs.Operators.{field_value, key_before, insert_field, replace_field, put_or_replace, put_field}

-- keys

pub same_bytes : (k : List ℕ) → bytes_eq k k ≡ true
same_bytes k = (bytes_decides k k).1 refl

pub equal_bytes : (k l : List ℕ) → bytes_eq k l ≡ true → k ≡ l
equal_bytes k l h = (bytes_decides k l).0 h

pub other_way : (k l : List ℕ) → bytes_eq k l ≡ false → bytes_eq l k ≡ false
other_way k l h = false_from_ne_true (bytes_eq l k) (λ e. false≢true (sym h ∙ (bytes_decides k l).1 (sym (equal_bytes l k e))))

-- what a key reads

-- the first field
chosen_field : (l k : List ℕ) (v : Value) (fs : Fields) (b : Bool) → bytes_eq l k ≡ b → field_value (field l v fs) k ≡ (if b then Some v else field_value fs k)
chosen_field l k v fs b e = ap (λ x. if x then Some v else field_value fs k) e

behind_other : (l k : List ℕ) (v : Value) (fs : Fields) → bytes_eq l k ≡ false → field_value (field l v fs) k ≡ field_value fs k
behind_other l k v fs e = chosen_field l k v fs false e

-- a record without a key: not the first field's, and not one of the rest
pub none_parts : (l k : List ℕ) (v : Value) (fs : Fields) → field_value (field l v fs) k ≡ None → (bytes_eq l k ≡ false) × (field_value fs k ≡ None)
none_parts l k v fs h = by_key (bytes_eq l k) refl h
  where
    by_key : (b : Bool) → bytes_eq l k ≡ b → (if b then Some v else field_value fs k) ≡ None → (bytes_eq l k ≡ false) × (field_value fs k ≡ None)
    by_key true e h' = absurd (none-some v (sym h'))
    by_key false e h' = (e, h')

insert_same : (k : List ℕ) (v : Value) (fs : Fields) → field_value fs k ≡ None → field_value (insert_field k v fs) k ≡ Some v
insert_same k v nofield h = chosen_field k k v nofield true (same_bytes k)
insert_same k v (field l w fs) h = let p = none_parts l k w fs h in by_place (key_before k l) p.0 (insert_same k v fs p.1)
  where
    by_place : (b : Bool) → bytes_eq l k ≡ false → field_value (insert_field k v fs) k ≡ Some v → field_value (if b then field k v (field l w fs) else field l w (insert_field k v fs)) k ≡ Some v
    by_place true e i = chosen_field k k v (field l w fs) true (same_bytes k)
    by_place false e i = behind_other l k w (insert_field k v fs) e ∙ i

pub insert_other : (k l : List ℕ) (v : Value) (fs : Fields) → bytes_eq k l ≡ false → field_value (insert_field k v fs) l ≡ field_value fs l
insert_other k l v nofield e = behind_other k l v nofield e
insert_other k l v (field m w fs) e = by_place (key_before k m) (insert_other k l v fs e)
  where
    by_place : (b : Bool) → field_value (insert_field k v fs) l ≡ field_value fs l → field_value (if b then field k v (field m w fs) else field m w (insert_field k v fs)) l ≡ field_value (field m w fs) l
    by_place true i = behind_other k l v (field m w fs) e
    by_place false i = ap (λ o. if bytes_eq m l then Some w else o) i

replace_same : (k : List ℕ) (v w : Value) (fs : Fields) → field_value fs k ≡ Some w → field_value (replace_field k v fs) k ≡ Some v
replace_same k v w nofield h = absurd (none-some w h)
replace_same k v w (field l x fs) h = by_key (bytes_eq l k) refl (replace_same k v w fs) h
  where
    by_key : (b : Bool) → bytes_eq l k ≡ b → (field_value fs k ≡ Some w → field_value (replace_field k v fs) k ≡ Some v) → (if b then Some x else field_value fs k) ≡ Some w → field_value (if b then field l v fs else field l x (replace_field k v fs)) k ≡ Some v
    by_key true e i h' = chosen_field l k v fs true e
    by_key false e i h' = behind_other l k x (replace_field k v fs) e ∙ i h'

pub replace_other : (k l : List ℕ) (v : Value) (fs : Fields) → bytes_eq k l ≡ false → field_value (replace_field k v fs) l ≡ field_value fs l
replace_other k l v nofield e = refl
replace_other k l v (field m x fs) e = by_key (bytes_eq m k) refl (replace_other k l v fs e)
  where
    by_key : (b : Bool) → bytes_eq m k ≡ b → field_value (replace_field k v fs) l ≡ field_value fs l → field_value (if b then field m v fs else field m x (replace_field k v fs)) l ≡ field_value (field m x fs) l
    by_key true i r = let o : bytes_eq m l ≡ false = subst (λ z. bytes_eq z l ≡ false) (sym (equal_bytes m k i)) e in behind_other m l v fs o ∙ sym (behind_other m l x fs o)
    by_key false i r = ap (λ o. if bytes_eq m l then Some x else o) r

pub put_same : (fs : Fields) (k : List ℕ) (v : Value) → field_value (put_field fs k v) k ≡ Some v
put_same fs k v = by_old (field_value fs k) refl
  where
    by_old : (o : Option Value) → field_value fs k ≡ o → field_value (put_or_replace o fs k v) k ≡ Some v
    by_old None e = insert_same k v fs e
    by_old (Some w) e = replace_same k v w fs e

pub put_other : (fs : Fields) (k l : List ℕ) (v : Value) → bytes_eq k l ≡ false → field_value (put_field fs k v) l ≡ field_value fs l
put_other fs k l v e = by_old (field_value fs k)
  where
    by_old : (o : Option Value) → field_value (put_or_replace o fs k v) l ≡ field_value fs l
    by_old None = insert_other k l v fs e
    by_old (Some w) = replace_other k l v fs e
