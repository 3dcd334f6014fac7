-- Members of literals are exactly what stands at them.
use Rattle.std.proofs.Common.{◌≡◌, ℕ, pos, zero, suc, ◌+◌, ◌-◌, ◌/◌, ◌%◌, Bool, true, false, not, ◌&&◌, if◌then◌else◌, List, [], ◌∷◌, ◌++◌, Option, Some, None, refl, sym, ap, ap₂, subst, ◌∙◌, nat_lt, length, bytes_eq, slice_get, chars, encode_utf8, codes}
use Rattle.std.proofs.lemmas.Bool.{false≢true, and_parts, not-true}
use Rattle.std.proofs.lemmas.Option.{none-some, same_Some}
use Rattle.swc_ast.specs.declared.Span.{Span}
use Rattle.swc_ast.specs.Tree.{ItemKind, Plain, Spread, Hole, StrLit, Array, Object, KeyValue, PlainKey, Dot, Tree, node, Forest, ε, ◌⊳◌}
use Rattle.swc_ast.specs.Value.{Value, Undefined, Num, Text, Items, Record, Values, Fields, nofield, field, Texts, Lists, Run, and_then, Context}
use Rattle.swc_ast.specs.Meaning.{◌>>=◌, gives, leaves, in_core, run_all, changing_keys, by_item, by_index, inherits, read_member, get, array_items, merged, object_fields, one_field, key_name, act, eval, evals}
use Rattle.swc_ast.specs.Operators.{if_some, index_of, units_of_all, units, unit_text, unit_at, value_at, values_len, field_value, field_or_undefined, put_field, put_fields, own_property}
use Rattle.swc_ast.specs.Call.{call_at}
use Rattle.meaning_proofs.specs.Exact.{Refines, Exact}
use Rattle.swc_utils.specs.Pure.{has_spread, pure, pure_all}
use Rattle.swc_utils.specs.Effects.{effects_all, preserve}
use Rattle.swc_utils.specs.Holds.{Any, Is, Keeps}
use Rattle.swc_utils.proofs.Preserved.{preserve_kept}
use Rattle.swc_utils.proofs.RunEffects.{all_kept}
use Rattle.swc_utils.proofs.Ends.{keeps_then, keeps_gives, keeps_leaves, any}
use Rattle.swc_utils.proofs.Pure.{items_still, stills, pure_is_still, calls_quiet}
use Rattle.swc_utils.proofs.Refines.{refines_same, refines_then, refines_drop, refines_trans, refines_assoc, refines_chain, refines_leaves}
use Rattle.pass_rules.specs.Leaves.{text_tree}
use Rattle.expr_rules.specs.Members.{all_basic, is_surrogate, character, text_at, items_before, item_at, items_behind, array_at, none_named, value_named}
use Rattle.expr_proofs.proofs.Records.{equal_bytes, put_same, put_other}
use Rattle.pass_proofs.proofs.Refines.{refines_path, refines_end}
use Rattle.expr_proofs.proofs.Rewrites.{if_gives}

-- an index is another key than `length`

length_no_index : index_of (codes "length") ≡ None
unfolding index_of
length_no_index = refl

index_no_length : (k : List ℕ) (i : ℕ) → index_of k ≡ Some i → bytes_eq k (codes "length") ≡ false
index_no_length k i h = by_key (bytes_eq k (codes "length")) refl
  where
    by_key : (b : Bool) → bytes_eq k (codes "length") ≡ b → b ≡ false
    by_key true e = absurd (none-some i (sym length_no_index ∙ ap index_of (sym (equal_bytes k (codes "length") e)) ∙ h))
    by_key false e = refl

-- texts

basic_units : (cs : List ℕ) → all_basic cs ≡ true → units_of_all cs ≡ cs
basic_units [] h = refl
basic_units (c ∷ cs) h = let p = and_parts (nat_lt c 65536) (all_basic cs) h in ap₂ ◌++◌ (ap (λ x. if x then c ∷ [] else (55296 + (c - 65536) / 1024) ∷ (56320 + (c - 65536) % 1024) ∷ []) p.0) (basic_units cs p.1)

pub found_some : {A B : Type 0} (o : Option A) (f : A → Option B) (b : B) → if_some o f ≡ Some b → (a : A) × (o ≡ Some a) × (f a ≡ Some b)
found_some None f b h = absurd (none-some b h)
found_some (Some a) f b h = (a, refl, h)

character_text : (c : ℕ) (u : List ℕ) → character c ≡ Some u → unit_text (Some c) ≡ Some (Text u)
character_text c u h = by_range (is_surrogate c) h
  where
    by_range : (b : Bool) → (if b then None else Some (encode_utf8 c)) ≡ Some u → ◌≡◌ {A = Option Value} (if b then None else Some (Text (encode_utf8 c))) (Some (Text u))
    by_range true h' = absurd (none-some u h')
    by_range false h' = ap (λ x. Some (Text x)) (same_Some _ _ h')

text_reads : (t k u : List ℕ) → text_at t k ≡ Some u → own_property (Text t) k ≡ Some (Text u)
unfolding own_property units
text_reads t k u h =
    let p = if_gives (all_basic (chars t)) _ u h in
    let q = found_some (index_of k) _ u p.1 in
    let r = found_some (slice_get (chars t) q.0) character u q.2 in
    ap (λ b. if b then Some (Num (pos (length (units_of_all (chars t))))) else if_some (index_of k) (unit_at (units_of_all (chars t)))) (index_no_length k q.0 q.1)
    ∙ ap (λ o. if_some o (unit_at (units_of_all (chars t)))) q.1
    ∙ ap (λ us. unit_text (slice_get us q.0)) (basic_units (chars t) p.0)
    ∙ ap unit_text r.1 ∙ character_text r.0 u r.2

-- a unit that is there is not inherited
text_own : (t k u : List ℕ) → text_at t k ≡ Some u → inherits (Text t) k ≡ None
unfolding units
text_own t k u h =
    let p = if_gives (all_basic (chars t)) _ u h in
    let q = found_some (index_of k) _ u p.1 in
    let r = found_some (slice_get (chars t) q.0) character u q.2 in
    ap (λ b. if b then None else by_index Texts [] k (slice_get (units_of_all (chars t))) (index_of k)) (index_no_length k q.0 q.1)
    ∙ ap (by_index Texts [] k (slice_get (units_of_all (chars t)))) q.1
    ∙ ap (λ us. by_item Texts (slice_get us q.0)) (basic_units (chars t) p.0)
    ∙ ap (by_item Texts) r.1

-- the character of a text at an index
pub text_at_exact : (mark : ℕ) (ss is rs : List Span) (t k u : List ℕ) → text_at t k ≡ Some u → Exact mark (node (Dot k) ss (node (StrLit t) is ε ⊳ ε)) (text_tree rs u)
unfolding eval act evals get and_then
text_at_exact mark ss is rs t k u h = record { by = λ n d c. refines_path (ap (λ o. read_member o (Text t) k) (text_own t k u h) ∙ ap in_core (text_reads t k u h)) }

-- arrays

items_read : (k : List ℕ) (i : ℕ) (vs : Values) → index_of k ≡ Some i → own_property (Items vs) k ≡ value_at vs i
unfolding own_property
items_read k i vs h = ap (λ b. if b then Some (Num (pos (values_len vs))) else if_some (index_of k) (value_at vs)) (index_no_length k i h) ∙ ap (λ o. if_some o (value_at vs)) h

-- an item that is there, or what is inherited in its place
abbrev item_read : List ℕ → Option Value → Run Value
item_read k None = read_member (Some Lists) Undefined k
item_read k (Some v) = gives v

items_get : (k : List ℕ) (i : ℕ) (vs : Values) → index_of k ≡ Some i → read_member (inherits (Items vs) k) (Items vs) k ≡ item_read k (value_at vs i)
items_get k i vs h =
    ap (λ o. read_member o (Items vs) k) (ap (λ b. if b then None else by_index Lists changing_keys k (value_at vs) (index_of k)) (index_no_length k i h) ∙ ap (by_index Lists changing_keys k (value_at vs)) h)
    ∙ go (value_at vs i) refl
  where
    go : (o : Option Value) → value_at vs i ≡ o → read_member (by_item Lists o) (Items vs) k ≡ item_read k o
    go None e = refl
    go (Some v) e = ap in_core (items_read k i vs h ∙ e)

module _ (mark n d : ℕ) (k : List ℕ) where
  -- the items in front run, and then the one that is read
  item_reads : (w : Tree) (ks : List ItemKind) (us : Forest) (i : ℕ) (t : Tree) (c : Context) → has_spread ks ≡ false → pure_all mark (items_behind ks us i) ≡ true → item_at w ks us i ≡ Some t → Refines (array_items ks (evals mark n (call_at (eval mark n) d) us) c >>= λ vs. item_read k (value_at vs i)) (run_all (evals mark n (call_at (eval mark n) d) (items_before ks us i)) c >>= λ v. eval mark n (call_at (eval mark n) d) t c)
  unfolding array_items evals run_all and_then
  item_reads w [] us i t c s p h = absurd (none-some t h)
  item_reads w (Spread ∷ ks) us i t c s p h = absurd (false≢true (sym s))
  item_reads w (Hole ∷ ks) us i t c s p h = refines_leaves
  item_reads w (Plain ∷ ks) ε i t c s p h = refines_leaves
  item_reads w (Plain ∷ ks) (u ⊳ us) zero t c s p h =
      subst (λ x. Refines (array_items (Plain ∷ ks) (evals mark n (call_at (eval mark n) d) (u ⊳ us)) c >>= λ vs. item_read k (value_at vs zero)) (eval mark n (call_at (eval mark n) d) x c)) (same_Some _ _ h)
      (refines_assoc (eval mark n (call_at (eval mark n) d) u c) _ _ (refines_end (any _) (λ v _. refines_assoc (array_items ks (evals mark n (call_at (eval mark n) d) us) c) _ _ (refines_drop (items_still ks _ (stills mark n (call_at (eval mark n) d) (calls_quiet mark n d) us p) c) (λ ws _. refines_same (gives v))))))
  item_reads w (Plain ∷ ks) (u ⊳ us) (suc i) t c s p h =
      refines_assoc (eval mark n (call_at (eval mark n) d) u c) _ _ (refines_chain (eval mark n (call_at (eval mark n) d) u c) (λ v. run_all (evals mark n (call_at (eval mark n) d) (items_before ks us i)) c) (λ v. eval mark n (call_at (eval mark n) d) t c)
      (refines_then (refines_same _) (λ v. refines_assoc (array_items ks (evals mark n (call_at (eval mark n) d) us) c) _ _ (item_reads w ks us i t c s p h))))

-- the item of an array at an index
pub array_at_exact : (mark : ℕ) (w : Tree) (ks : List ItemKind) (us : Forest) (ss is rs : List Span) (k : List ℕ) (i : ℕ) (t : Tree) → index_of k ≡ Some i → array_at mark rs w ks us i ≡ Some t → Exact mark (node (Dot k) ss (node (Array ks) is us ⊳ ε)) t
unfolding eval act evals get and_then
array_at_exact mark w ks us ss is rs k i t e h =
    let p = if_gives (not (has_spread ks) && pure_all mark (items_behind ks us i)) _ t h in
    let q = and_parts (not (has_spread ks)) (pure_all mark (items_behind ks us i)) p.0 in
    let r = found_some (item_at w ks us i) (λ x. Some (preserve rs (effects_all mark (items_before ks us i)) x)) t p.1 in
    record {
      by = λ n d c.
          refines_assoc (array_items ks (evals mark n (call_at (eval mark n) d) us) c) (λ vs. gives (Items vs)) (λ v. get v k)
          (refines_trans (refines_then (refines_same _) (λ vs. refines_path (items_get k i vs e)))
          (refines_trans (item_reads mark n d k w ks us i r.0 c (not-true (has_spread ks) q.0) q.1 r.1)
          (refines_trans (refines_then (all_kept mark n d (items_before ks us i) c) (λ v. refines_same _))
          (subst (λ x. Refines (run_all (evals mark n (call_at (eval mark n) d) (effects_all mark (items_before ks us i))) c >>= λ v. eval mark n (call_at (eval mark n) d) r.0 c) (eval mark n (call_at (eval mark n) d) x c)) (same_Some _ _ r.2) (preserve_kept mark n (call_at (eval mark n) d) rs (effects_all mark (items_before ks us i)) r.0 c)))));
    }

-- objects

merged_then : (fs : Fields) (r : Value) (rest : Fields → Run Value) (k : Run Value) → ((gs : Fields) → r ≡ Record gs → Refines (rest (put_fields fs gs)) k) → Refines (merged fs r >>= rest) k
unfolding and_then
merged_then fs (Record gs) rest k h = h gs refl
merged_then fs _ rest k h = refines_leaves

merged_keeps : (P : Fields → Type 0) (fs : Fields) (r : Value) (rest : Fields → Run Fields) → ((gs : Fields) → r ≡ Record gs → Keeps P (rest (put_fields fs gs))) → Keeps P (merged fs r >>= rest)
unfolding and_then
merged_keeps P fs (Record gs) rest h = h gs refl
merged_keeps P fs _ rest h = keeps_leaves

-- a property is a record of one field
abbrev One : List ℕ → (Value → Type 0) → Value → Type 0
One k P r = (v : Value) × (r ≡ Record (field k v nofield)) × P v

one_keeps : (k : List ℕ) (P : Value → Type 0) (v : Value) → P v → Keeps (One k P) (one_field k v)
one_keeps k P v p = by_key (bytes_eq k (codes "__proto__"))
  where
    by_key : (b : Bool) → Keeps (One k P) (if b then leaves else gives (Record (field k v nofield)))
    by_key true = keeps_leaves
    by_key false = keeps_gives _ (v, refl, p)

record_fields : (gs hs : Fields) → Record gs ≡ Record hs → gs ≡ hs
record_fields gs hs h = cc

module _ (mark n d : ℕ) (k : List ℕ) (c : Context) where
  abbrev Holds : Value → Fields → Type 0
  Holds v gs = field_value gs k ≡ Some v

  put_holds : (fs gs : Fields) (r v x : Value) (l : List ℕ) → r ≡ Record gs → r ≡ Record (field l x nofield) → field_value (put_field fs l x) k ≡ Some v → Holds v (put_fields fs gs)
  put_holds fs gs r v x l e i h = subst (λ ys. Holds v (put_fields fs ys)) (record_fields _ _ (sym i ∙ e)) h

  -- properties of other keys leave what the key reads
  named_keeps : (ts : Forest) (fs : Fields) (v : Value) → none_named mark k ts ≡ true → field_value fs k ≡ Some v → Keeps (Holds v) (object_fields (evals mark n (call_at (eval mark n) d) ts) fs c)
  unfolding object_fields evals eval act and_then
  named_keeps ε fs v h e = keeps_gives fs e
  named_keeps (node KeyValue ss (node (PlainKey l) rs ε ⊳ t ⊳ ε) ⊳ ts) fs v h e =
      let p = and_parts (not (bytes_eq (key_name l) k)) (pure mark t && none_named mark k ts) h in
      let q = and_parts (pure mark t) (none_named mark k ts) p.1 in
      keeps_then (keeps_then (pure_is_still mark n d t q.0 c) (λ x _. one_keeps (key_name l) Any x tt)) (λ r i. merged_keeps (Holds v) fs r _ (λ gs j. named_keeps ts (put_fields fs gs) v q.1 (put_holds fs gs r v i.0 (key_name l) j i.1 (put_other fs (key_name l) k i.0 (not-true _ p.0) ∙ e))))
  named_keeps _ fs v h e = absurd (false≢true h)

  abbrev reads : Fields → Run Value
  reads gs = in_core (field_or_undefined (field_value gs k) k)

  -- a property and the rest
  abbrev walk : Tree → List ℕ → Fields → Forest → Run Fields
  walk t l fs ts = (eval mark n (call_at (eval mark n) d) t c >>= λ v. one_field l v) >>= λ r. merged fs r >>= λ gs. object_fields (evals mark n (call_at (eval mark n) d) ts) gs c

  abbrev walk_read : Tree → List ℕ → Fields → Forest → Run Value
  walk_read t l fs ts = (eval mark n (call_at (eval mark n) d) t c >>= λ v. one_field l v) >>= λ r. merged fs r >>= λ gs. object_fields (evals mark n (call_at (eval mark n) d) ts) gs c >>= reads

  put_is : (fs gs : Fields) (r x : Value) (l : List ℕ) → r ≡ Record gs → r ≡ Record (field l x nofield) → put_fields fs gs ≡ put_field fs l x
  put_is fs gs r x l e i = ap (put_fields fs) (record_fields _ _ (sym e ∙ i))

  -- the value of the key, where all other values are pure
  named_reads : (ts : Forest) (fs : Fields) (t : Tree) → value_named mark k ts ≡ Some t → Refines (object_fields (evals mark n (call_at (eval mark n) d) ts) fs c >>= reads) (eval mark n (call_at (eval mark n) d) t c)
  unfolding object_fields evals eval act and_then
  named_reads (node KeyValue ss (node (PlainKey l) rs ε ⊳ t ⊳ ε) ⊳ ts) fs u h = by_key (bytes_eq (key_name l) k) refl (λ gs i. named_reads ts gs u i) h
    where
      here : (none_named mark k ts ≡ true) → bytes_eq (key_name l) k ≡ true → Refines (walk_read t (key_name l) fs ts) (eval mark n (call_at (eval mark n) d) t c)
      here q e = refines_assoc (eval mark n (call_at (eval mark n) d) t c) (λ v. one_field (key_name l) v) _ (refines_end (any _) (λ v _. refines_drop (one_keeps (key_name l) (Is v) v refl) (λ r i. merged_then fs r _ (gives v) (λ gs j. refines_drop (named_keeps ts (put_fields fs gs) v q (ap (λ x. field_value x k) (put_is fs gs r i.0 (key_name l) j i.1) ∙ ap (λ y. field_value (put_field fs y i.0) k) (equal_bytes (key_name l) k e) ∙ put_same fs k i.0 ∙ ap Some i.2)) (λ hs y. refines_path (ap (λ o. in_core (field_or_undefined o k)) y))))))

      before : pure mark t ≡ true → ((gs : Fields) → Refines (object_fields (evals mark n (call_at (eval mark n) d) ts) gs c >>= reads) (eval mark n (call_at (eval mark n) d) u c)) → Refines (walk_read t (key_name l) fs ts) (eval mark n (call_at (eval mark n) d) u c)
      before q next = refines_assoc (eval mark n (call_at (eval mark n) d) t c) (λ v. one_field (key_name l) v) _ (refines_drop (pure_is_still mark n d t q c) (λ v _. refines_drop (one_keeps (key_name l) Any v tt) (λ r i. merged_then fs r _ _ (λ gs j. next (put_fields fs gs)))))

      chained : {x : Run Value} → Refines (walk_read t (key_name l) fs ts) x → Refines (walk t (key_name l) fs ts >>= reads) x
      chained h' = refines_assoc (eval mark n (call_at (eval mark n) d) t c >>= λ v. one_field (key_name l) v) (λ r. merged fs r >>= λ gs. object_fields (evals mark n (call_at (eval mark n) d) ts) gs c) reads (refines_trans (refines_then (refines_same _) (λ r. refines_assoc (merged fs r) (λ gs. object_fields (evals mark n (call_at (eval mark n) d) ts) gs c) reads (refines_same _))) h')

      by_key : (b : Bool) → bytes_eq (key_name l) k ≡ b → ((gs : Fields) → value_named mark k ts ≡ Some u → Refines (object_fields (evals mark n (call_at (eval mark n) d) ts) gs c >>= reads) (eval mark n (call_at (eval mark n) d) u c)) → (if b then (if none_named mark k ts then Some t else None) else (if pure mark t then value_named mark k ts else None)) ≡ Some u → Refines (walk t (key_name l) fs ts >>= reads) (eval mark n (call_at (eval mark n) d) u c)
      by_key true e next h' = let p = if_gives (none_named mark k ts) (Some t) u h' in subst (λ x. Refines (walk t (key_name l) fs ts >>= reads) (eval mark n (call_at (eval mark n) d) x c)) (same_Some _ _ p.1) (chained (here p.0 e))
      by_key false e next h' = let p = if_gives (pure mark t) (value_named mark k ts) u h' in chained (before p.0 (λ gs. next gs p.1))
  named_reads _ fs u h = absurd (none-some u h)

-- the value of a key of an object
pub value_named_exact : (mark : ℕ) (ss is : List Span) (ts : Forest) (k : List ℕ) (t : Tree) → value_named mark k ts ≡ Some t → Exact mark (node (Dot k) ss (node Object is ts ⊳ ε)) t
unfolding eval act evals get own_property and_then
value_named_exact mark ss is ts k t h = record { by = λ n d c. refines_assoc (object_fields (evals mark n (call_at (eval mark n) d) ts) nofield c) (λ fs. gives (Record fs)) (λ v. get v k) (named_reads mark n d k c ts nofield t h) }
