-- Lists and records that are related: their parts, and what is made of them.
use Rattle.std.proofs.Common.{◌≡◌, ℕ, zero, suc, Bool, true, false, ◌&&◌, List, Option, Some, None, refl, ap, subst, bytes_eq, codes, length, slice_get, cond, nat_le, nat_lt, encode_utf8, pos}
use Rattle.swc_ast.specs.Value.{Value, Undefined, Num, Text, Values, Fields}
use Rattle.swc_ast.specs.Operators.{value_at, values_len, values_append, field_value, key_before, insert_field, replace_field, if_some, put_or_replace, put_field, put_fields, field_or_undefined, unit_at, own_property, is_inherited, index_of, unit_text, units}
use Rattle.rename_proofs.proofs.Relation.{Pairing, Maybe, neither, both, V, Vs, Fs, undefined, num, text, items, entries, no_value, value, no_entry, entry}
use Rattle.rename_proofs.proofs.Data.{data_same}
use Rattle.rename_proofs.proofs.Results.{DataIn}

unit_data : (o : Option ℕ) → DataIn (unit_text o)
unit_data None = tt
unit_data (Some c) = go (nat_le 55296 c && nat_lt c 57344)
  where
    go : (b : Bool) → DataIn (cond b None (Some (Text (encode_utf8 c))))
    go true = tt
    go false = refl

pub text_data : (t k : List ℕ) → DataIn (own_property (Text t) k)
unfolding own_property
text_data t k = go (bytes_eq k (codes "length")) (index_of k)
  where
    at : (o : Option ℕ) → DataIn (if_some o (unit_at (units t)))
    at None = tt
    at (Some i) = unit_data (slice_get (units t) i)

    go : (b : Bool) (o : Option ℕ) → DataIn (cond b (Some (Num (pos (length (units t))))) (if_some o (unit_at (units t))))
    go true o = refl
    go false o = at o

module _ {P : Pairing} where
  pub maybe_data : (o : Option Value) → DataIn o → Maybe (V P) o o
  maybe_data None h = neither
  maybe_data (Some v) h = both (data_same v h)

  pub maybe_same : {o p : Option Value} → o ≡ p → DataIn o → Maybe (V P) o p
  maybe_same {o} e h = subst (λ p. Maybe (V P) o p) e (maybe_data o h)

  pub value_at_sim : {vs ws : Values} → Vs P vs ws → (i : ℕ) → Maybe (V P) (value_at vs i) (value_at ws i)
  value_at_sim no_value i = neither
  value_at_sim (value r rs) zero = both r
  value_at_sim (value r rs) (suc i) = value_at_sim rs i

  pub same_len : {vs ws : Values} → Vs P vs ws → values_len vs ≡ values_len ws
  same_len no_value = refl
  same_len (value r rs) = ap suc (same_len rs)

  pub append_sim : {vs ws us xs : Values} → Vs P vs ws → Vs P us xs → Vs P (values_append vs us) (values_append ws xs)
  append_sim no_value q = q
  append_sim (value r rs) q = value r (append_sim rs q)

  cond_fields : (b : Bool) {fs gs hs is : Fields} → Fs P fs hs → Fs P gs is → Fs P (cond b fs gs) (cond b hs is)
  cond_fields true p q = p
  cond_fields false p q = q

  cond_maybe : (b : Bool) {o p q r : Option Value} → Maybe (V P) o q → Maybe (V P) p r → Maybe (V P) (cond b o p) (cond b q r)
  cond_maybe true p q = p
  cond_maybe false p q = q

  pub field_value_sim : {fs gs : Fields} → Fs P fs gs → (k : List ℕ) → Maybe (V P) (field_value fs k) (field_value gs k)
  field_value_sim no_entry k = neither
  field_value_sim (entry l r rs) k = cond_maybe (bytes_eq l k) (both r) (field_value_sim rs k)

  insert_sim : (k : List ℕ) {v w : Value} {fs gs : Fields} → V P v w → Fs P fs gs → Fs P (insert_field k v fs) (insert_field k w gs)
  insert_sim k r no_entry = entry k r no_entry
  insert_sim k r (entry l q rs) = cond_fields (key_before k l) (entry k r (entry l q rs)) (entry l q (insert_sim k r rs))

  replace_sim : (k : List ℕ) {v w : Value} {fs gs : Fields} → V P v w → Fs P fs gs → Fs P (replace_field k v fs) (replace_field k w gs)
  replace_sim k r no_entry = no_entry
  replace_sim k r (entry l q rs) = cond_fields (bytes_eq l k) (entry l r rs) (entry l q (replace_sim k r rs))

  put_or_replace_sim : {o p : Option Value} → Maybe (V P) o p → {fs gs : Fields} (k : List ℕ) {v w : Value} → Fs P fs gs → V P v w → Fs P (put_or_replace o fs k v) (put_or_replace p gs k w)
  put_or_replace_sim neither k rs r = insert_sim k r rs
  put_or_replace_sim (both q) k rs r = replace_sim k r rs

  pub put_field_sim : {fs gs : Fields} (k : List ℕ) {v w : Value} → Fs P fs gs → V P v w → Fs P (put_field fs k v) (put_field gs k w)
  put_field_sim k rs r = put_or_replace_sim (field_value_sim rs k) k rs r

  pub put_fields_sim : {hs is : Fields} → Fs P hs is → {fs gs : Fields} → Fs P fs gs → Fs P (put_fields fs hs) (put_fields gs is)
  put_fields_sim no_entry rs = rs
  put_fields_sim (entry k q qs) rs = put_fields_sim qs (put_field_sim k rs q)

  -- what a record lacks is undefined, unless each object inherits it
  lacks_at : (b : Bool) → Maybe (V P) (cond b None (Some Undefined)) (cond b None (Some Undefined))
  lacks_at true = neither
  lacks_at false = both undefined

  lacks_sim : (k : List ℕ) {o p : Option Value} → Maybe (V P) o p → Maybe (V P) (field_or_undefined o k) (field_or_undefined p k)
  lacks_sim k (both r) = both r
  lacks_sim k neither = lacks_at (is_inherited k)

  item_at_sim : {vs ws : Values} (o : Option ℕ) → Vs P vs ws → Maybe (V P) (if_some o (value_at vs)) (if_some o (value_at ws))
  item_at_sim None r = neither
  item_at_sim (Some i) r = value_at_sim r i

  length_sim : {vs ws : Values} → Vs P vs ws → Maybe (V P) (Some (Num (pos (values_len vs)))) (Some (Num (pos (values_len ws))))
  length_sim {vs} r = subst (λ n. Maybe (V P) (Some (Num (pos (values_len vs)))) (Some (Num (pos n)))) (same_len r) (both (num (pos (values_len vs))))

  pub own_property_sim : {v w : Value} → V P v w → (k : List ℕ) → Maybe (V P) (own_property v k) (own_property w k)
  unfolding own_property
  own_property_sim (entries r) k = lacks_sim k (field_value_sim r k)
  own_property_sim (items r) k = cond_maybe (bytes_eq k (codes "length")) (length_sim r) (item_at_sim (index_of k) r)
  own_property_sim (text t) k = maybe_data (own_property (Text t) k) (text_data t k)
  own_property_sim _ k = neither
