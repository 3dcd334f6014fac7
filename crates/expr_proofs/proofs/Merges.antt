-- To put the fields of a record that was itself put together is to put the fields of its parts.
use Rattle.std.proofs.Common.{◌≡◌, ℕ, Bool, true, false, if◌then◌else◌, List, Option, Some, None, refl, sym, ap, ◌∙◌, ◌⊎◌, bytes_eq}
use Rattle.std.proofs.lemmas.Bool.{false≢true}
use Rattle.std.proofs.lemmas.Option.{none-some}
use Rattle.swc_ast.specs.Value.{Value, Fields, nofield, field}
use Rattle.swc_ast.specs.Operators.{field_value, index_of, key_before, insert_field, replace_field, put_or_replace, put_field, put_fields}
use Rattle.expr_proofs.proofs.Records.{equal_bytes, other_way, insert_other, put_same, put_other, none_parts}
use Rattle.expr_proofs.proofs.Orders.{one_before, put_both, put_again}

-- no key stands twice
abbrev pub Apart : Fields → Type 0
Apart nofield = Unit {0}
Apart (field k v fs) = (field_value fs k ≡ None) × Apart fs

replace_none : (k l : List ℕ) (v : Value) (fs : Fields) → field_value fs l ≡ None → field_value (replace_field k v fs) l ≡ None
replace_none k l v nofield h = refl
replace_none k l v (field m x fs) h = let p = none_parts m l x fs h in by_key (bytes_eq m k) p.0 p.1 (replace_none k l v fs p.1)
  where
    first : (y : Value) (gs : Fields) → bytes_eq m l ≡ false → field_value gs l ≡ None → field_value (field m y gs) l ≡ None
    first y gs e i = ap (λ b. if b then Some y else field_value gs l) e ∙ i

    by_key : (b : Bool) → bytes_eq m l ≡ false → field_value fs l ≡ None → field_value (replace_field k v fs) l ≡ None → field_value (if b then field m v fs else field m x (replace_field k v fs)) l ≡ None
    by_key true e i j = first v fs e i
    by_key false e i j = first x (replace_field k v fs) e j

replace_apart : (k : List ℕ) (v : Value) (fs : Fields) → Apart fs → Apart (replace_field k v fs)
replace_apart k v nofield h = tt
replace_apart k v (field l x fs) h = by_key (bytes_eq l k) (replace_apart k v fs h.1)
  where
    by_key : (b : Bool) → Apart (replace_field k v fs) → Apart (if b then field l v fs else field l x (replace_field k v fs))
    by_key true i = h
    by_key false i = (replace_none k l v fs h.0, i)

insert_apart : (k : List ℕ) (v : Value) (fs : Fields) → field_value fs k ≡ None → Apart fs → Apart (insert_field k v fs)
insert_apart k v nofield e h = (refl, tt)
insert_apart k v (field l x fs) e h = let p = none_parts l k x fs e in by_place (key_before k l) p.0 (insert_apart k v fs p.1 h.1)
  where
    by_place : (b : Bool) → bytes_eq l k ≡ false → Apart (insert_field k v fs) → Apart (if b then field k v (field l x fs) else field l x (insert_field k v fs))
    by_place true q i = (e, h)
    by_place false q i = (insert_other k l v fs (other_way l k q) ∙ h.0, i)

pub put_apart : (fs : Fields) (k : List ℕ) (v : Value) → Apart fs → Apart (put_field fs k v)
put_apart fs k v h = by_old (field_value fs k) refl
  where
    by_old : (o : Option Value) → field_value fs k ≡ o → Apart (put_or_replace o fs k v)
    by_old None e = insert_apart k v fs e h
    by_old (Some w) e = replace_apart k v fs h

pub puts_apart : (fs gs : Fields) → Apart fs → Apart (put_fields fs gs)
puts_apart fs nofield h = h
puts_apart fs (field k v gs) h = puts_apart (put_field fs k v) gs (put_apart fs k v h)

-- a field whose key is there already, or is an index, is put before others of other keys or behind them
put_past : (fs gs : Fields) (k : List ℕ) (v : Value) → field_value gs k ≡ None → ((m : List ℕ) → bytes_eq k m ≡ false → (hs : Fields) → field_value hs k ≡ field_value fs k → field_value hs k ≡ None → (key_before k m ≡ true) ⊎ (key_before m k ≡ true)) → put_field (put_fields fs gs) k v ≡ put_fields (put_field fs k v) gs
put_past fs nofield k v e order = refl
put_past fs (field m y gs) k v e order =
    let p = none_parts m k y gs e in
    let q = other_way m k p.0 in
    put_past (put_field fs m y) gs k v p.1 (λ l a hs i j. order l a hs (i ∙ put_other fs m k y p.0) j)
    ∙ ap (λ x. put_fields x gs) (put_both fs k m v y q (λ i. order m q fs refl i))

indexed : (k : List ℕ) (l : List ℕ) → key_before k l ≡ true → (i : ℕ) × (index_of k ≡ Some i)
indexed k l h = by_index (index_of k) refl h
  where
    by_index : (o : Option ℕ) → index_of k ≡ o → Rattle.swc_ast.specs.Operators.index_before o (index_of l) ≡ true → (i : ℕ) × (index_of k ≡ Some i)
    by_index None e h' = absurd (false≢true h')
    by_index (Some i) e h' = (i, e)

-- one field more
pub put_chain : (fs gs : Fields) (k : List ℕ) (v : Value) → Apart gs → put_fields fs (put_field gs k v) ≡ put_field (put_fields fs gs) k v
put_chain fs gs k v h = by_old (field_value gs k) refl
  where
    old_key : (fs gs : Fields) (w : Value) → Apart gs → field_value gs k ≡ Some w → put_fields fs (replace_field k v gs) ≡ put_field (put_fields fs gs) k v
    old_key fs nofield w a e = absurd (none-some w e)
    old_key fs (field l x gs) w a e = by_key (bytes_eq l k) refl e (λ e'. old_key (put_field fs l x) gs w a.1 e')
      where
        by_key : (b : Bool) → bytes_eq l k ≡ b → (if b then Some x else field_value gs k) ≡ Some w → (field_value gs k ≡ Some w → put_fields (put_field fs l x) (replace_field k v gs) ≡ put_field (put_fields (put_field fs l x) gs) k v) → put_fields fs (if b then field l v gs else field l x (replace_field k v gs)) ≡ put_field (put_fields (put_field fs l x) gs) k v
        by_key true q e' next =
            let same : l ≡ k = equal_bytes l k q in
            ap (λ m. put_fields (put_field fs m v) gs) same
            ∙ ap (λ y. put_fields y gs) (sym (put_again fs k v x))
            ∙ sym (put_past (put_field fs k x) gs k v (ap (field_value gs) (sym same) ∙ a.0) (λ m apart hs i j. absurd (none-some x (sym j ∙ i ∙ put_same fs k x))))
            ∙ ap (λ m. put_field (put_fields (put_field fs m x) gs) k v) (sym same)
        by_key false q e' next = next e'

    new_key : (fs gs : Fields) → Apart gs → field_value gs k ≡ None → put_fields fs (insert_field k v gs) ≡ put_field (put_fields fs gs) k v
    new_key fs nofield a e = refl
    new_key fs (field l x gs) a e = by_place (key_before k l) refl (λ i. new_key (put_field fs l x) gs a.1 i)
      where
        by_place : (b : Bool) → key_before k l ≡ b → (field_value gs k ≡ None → put_fields (put_field fs l x) (insert_field k v gs) ≡ put_field (put_fields (put_field fs l x) gs) k v) → put_fields fs (if b then field k v (field l x gs) else field l x (insert_field k v gs)) ≡ put_field (put_fields (put_field fs l x) gs) k v
        by_place true q next = let i = indexed k l q in sym (put_past fs (field l x gs) k v e (λ m apart hs j z. one_before k m i.0 i.1 apart))
        by_place false q next = next (none_parts l k x gs e).1

    by_old : (o : Option Value) → field_value gs k ≡ o → put_fields fs (put_or_replace o gs k v) ≡ put_field (put_fields fs gs) k v
    by_old None e = new_key fs gs h e
    by_old (Some w) e = old_key fs gs w h e

pub puts_chain : (fs gs hs : Fields) → Apart gs → put_fields fs (put_fields gs hs) ≡ put_fields (put_fields fs gs) hs
puts_chain fs gs nofield h = refl
puts_chain fs gs (field k v hs) h = puts_chain fs (put_field gs k v) hs (put_apart gs k v h) ∙ ap (λ x. put_fields x hs) (put_chain fs gs k v h)
