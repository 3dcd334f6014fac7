-- The parts that the meanings of nodes are made of: members, calls, lists and operators.
use Rattle.std.proofs.Common.{◌≡◌, ℕ, zero, suc, length, pos, Bool, true, false, not, ◌&&◌, List, [], ◌∷◌, ◌++◌, Option, Some, None, refl, ap, ap₂, subst, cond, bytes_eq, codes, if◌then◌else◌}
use Rattle.std.proofs.lemmas.Bool.{and_parts}
use Rattle.swc_ast.specs.Tree.{ItemKind, Plain, Spread, Hole}
use Rattle.swc_ast.specs.declared.UpdateOp.{UpdateOp}
use Rattle.swc_ast.specs.declared.BinaryOp.{BinaryOp}
use Rattle.swc_ast.specs.declared.BinaryOp.TheVariants.{LogicalAnd, LogicalOr, NullishCoalescing}
use Rattle.swc_ast.specs.Operators.{prim, number_value, index_of, value_at}
use Rattle.swc_ast.specs.Value.{Value, Token, Values, Fields, is_data, all_data, Event, Gets, Sets, Calls, Makes, Returns, Fails, Reply, Gives, Throws, Back, Natives, Lists, Outcome, Run, Context, Meaning}
use Rattle.swc_ast.specs.Meaning.{leaves, in_core, changing_keys, by_item, by_index, inherits, datum, read_member, get, put, get_at, put_at, read_this, Caller, call_some, call_handed, told, reply_to_call, replies_to_call, ask_call, call_value, make_value, all_values, in_turn, run_all, spread_items, item_values, array_items, template_text, merged, object_fields, key_text, one_field, compute, short_circuits, shortened, operate, assign, update, choice, bad_shape}
use Rattle.rename_proofs.proofs.Relation.{Pairing, Each, none, more, Maybe, neither, both, V, Vs, Fs, undefined, null, script_this, num, items, entries, function, token, own, no_value, value, no_entry, entry, C, broken, continued, returned, thrown, Sim, done, jump, outside, cut, Ran, M}
use Rattle.rename_proofs.proofs.Combine.{Eq, gives_sim, leaves_sim, type_error_sim, if_sim, in_core_sim, and_then_sim, bind}
use Rattle.rename_proofs.proofs.Data.{data_same, all_data_same}
use Rattle.rename_proofs.proofs.Prims.{same_nullish, same_truthy, same_text, same_number, same_binary}
use Rattle.rename_proofs.proofs.Results.{binary_data, numeric_data}
use Rattle.rename_proofs.proofs.Members.{own_property_sim, value_at_sim, maybe_same, append_sim, put_fields_sim}
use Rattle.rename_proofs.proofs.Stores.{ask_sim, tell_sim, tell_same, get_each, with_replies, asked, take_sim, hand_sim, hand_all_sim}

pub same_option : {A : Type 0} {o p : Option A} → o ≡ p → Maybe Eq o p
same_option {A} {o} e = subst (λ p. Maybe Eq o p) e (at o)
  where
    at : (o : Option A) → Maybe Eq o o
    at None = neither
    at (Some a) = both refl

-- what calls two functions
pub record K (P : Pairing) (call call' : Caller) : Type 0 where
  pub by : {f g t u : Value} {vs ws : Values} → V P f g → V P t u → Vs P vs ws → Ran P (V P) (call f t vs) (call' g u ws)

module _ {P : Pairing} where
  pub equal_data : {v w : Value} → v ≡ w → is_data v ≡ true → V P v w
  equal_data {v} e d = subst (λ w. V P v w) e (data_same v d)

  -- members

  -- what a text is used for, where both sides have the same
  pub with_text : {A : Type 0} {RA : A → A → Type 0} {k l : List ℕ → Run A} → ((t : List ℕ) → Ran P RA (k t) (l t)) → (t u : List ℕ) → Eq t u → Ran P RA (k t) (l u)
  with_text {RA = RA} {k} {l} h t u e = subst (λ u. Ran P RA (k t) (l u)) e (h t)

  by_item_same : (n : Natives) {o p : Option Value} → Maybe (V P) o p → by_item n o ≡ by_item n p
  by_item_same n neither = refl
  by_item_same n (both r) = refl

  by_index_same : (k : List ℕ) {vs ws : Values} → Vs P vs ws → (o : Option ℕ) → by_index Lists changing_keys k (value_at vs) o ≡ by_index Lists changing_keys k (value_at ws) o
  by_index_same k r None = refl
  by_index_same k r (Some i) = by_item_same Lists (value_at_sim r i)

  same_inherits : {v w : Value} → V P v w → (k : List ℕ) → inherits v k ≡ inherits w k
  same_inherits (items r) k = ap (λ (o : Option Natives). if bytes_eq k (codes "length") then None else o) (by_index_same k r (index_of k))
  same_inherits _ k = refl

  datum_sim : (v : Value) → Maybe (V P) (datum v) (datum v)
  datum_sim v = go (is_data v) refl
    where
      go : (b : Bool) → is_data v ≡ b → Maybe (V P) (cond b (Some v) None) (cond b (Some v) None)
      go true e = both (data_same v e)
      go false e = neither

  -- what is inherited from the host is the same on both sides
  native_sim : (n : Natives) (k : List ℕ) → Ran P (V P) (λ s. in_core (datum (s.natives n k)) s) (λ s. in_core (datum (s.natives n k)) s)
  native_sim n k s t h = subst (λ ns. Sim P (V P) (in_core (datum (s.natives n k)) s) (in_core (datum (ns n k)) t)) h.natives (in_core_sim (datum_sim (s.natives n k)) s t h)

  member_sim : (o p : Option Natives) → o ≡ p → {v w : Value} → V P v w → (k : List ℕ) → Ran P (V P) (read_member o v k) (read_member p w k)
  member_sim o p e {v} {w} r k = subst (λ p. Ran P (V P) (read_member o v k) (read_member p w k)) e (go o)
    where
      go : (o : Option Natives) → Ran P (V P) (read_member o v k) (read_member o w k)
      go None = in_core_sim (own_property_sim r k)
      go (Some n) = native_sim n k

  pub get_sim : {v w : Value} → V P v w → (k : List ℕ) → Ran P (V P) (get v k) (get w k)
  unfolding get
  get_sim (token n b) k = ask_sim (Gets (Token n b) k)
  get_sim undefined k = type_error_sim
  get_sim null k = type_error_sim
  get_sim r k = member_sim _ _ (same_inherits r k) r k

  pub put_sim : {o p v w : Value} → V P o p → (k : List ℕ) → V P v w → Ran P (V P) (put o k v) (put p k w)
  unfolding put
  put_sim (token n b) k r = tell_sim (Sets (Token n b) k) r
  put_sim undefined k r = type_error_sim
  put_sim null k r = type_error_sim
  put_sim _ k r = leaves_sim leaves

  pub get_at_sim : {o p k l : Value} → V P o p → V P k l → Ran P (V P) (get_at o k) (get_at p l)
  unfolding get_at
  get_at_sim r q = if_sim (same_nullish r) type_error_sim (bind (in_core_sim (same_option (same_text q))) (with_text (get_sim r)))

  pub put_at_sim : {o p k l v w : Value} → V P o p → V P k l → V P v w → Ran P (V P) (put_at o k v) (put_at p l w)
  unfolding put_at
  put_at_sim r q u = if_sim (same_nullish r) type_error_sim (bind (in_core_sim (same_option (same_text q))) (with_text (λ t. put_sim r t u)))

  pub read_this_sim : {v w : Value} → V P v w → Ran P (V P) (read_this v) (read_this w)
  read_this_sim script_this = leaves_sim leaves
  read_this_sim (items r) = gives_sim (items r)
  read_this_sim r = gives_sim r

  -- calls

  call_some_sim : {call call' : Caller} → K P call call' → {o p : Option Value} → Maybe (V P) o p → {t u : Value} {vs ws : Values} → V P t u → Vs P vs ws → Ran P (V P) (call_some call o t vs) (call_some call' p u ws)
  call_some_sim hk neither q rs = leaves_sim leaves
  call_some_sim hk (both r) q rs = hk.by r q rs

  pub call_handed_sim : {call call' : Caller} → K P call call' → (k : ℕ) {t u : Value} {vs ws : Values} → V P t u → Vs P vs ws → Ran P (V P) (call_handed call k t vs) (call_handed call' k u ws)
  unfolding call_handed
  call_handed_sim hk k q rs = λ s t h. call_some_sim hk (get_each h.handed k) q rs s t h

  -- the host calls functions that were handed to it

  told_sim : {o p : Outcome Value} → Sim P (V P) o p → Sim P (V P) (told o) (told p)
  told_sim (done r h) = and_then_sim (hand_sim r _ _ h) (λ a b e. tell_same (ap Returns e))
  told_sim (jump (thrown r) h) = and_then_sim (hand_sim r _ _ h) (λ a b e. tell_same (ap Fails e))
  told_sim (jump (broken l) h) = outside _
  told_sim (jump (continued l) h) = outside _
  told_sim (jump (returned r) h) = outside _
  told_sim (outside o) = outside _
  told_sim (cut o) = cut _

  call_back_if : {call call' : Caller} → K P call call' → (k : ℕ) (t : Value) (vs : Values) (b : Bool) → (is_data t && all_data vs) ≡ b
      → Ran P (V P) (if b then (λ s. told (call_handed call k t vs s)) else leaves) (if b then (λ s. told (call_handed call' k t vs s)) else leaves)
  call_back_if hk k t vs true e = λ s u h. let p = and_parts (is_data t) (all_data vs) e in told_sim (call_handed_sim hk k (data_same t p.0) (all_data_same vs p.1) s u h)
  call_back_if hk k t vs false e = leaves_sim leaves

  reply_sim : {call call' : Caller} → K P call call' → {next next' : Run Value} → Ran P (V P) next next' → (rs : List Reply) → Ran P (V P) (reply_to_call call next rs) (reply_to_call call' next' rs)
  reply_sim hk hn [] = λ s t h. take_sim [] h
  reply_sim hk hn (Gives v ∷ rs) = λ s t h. take_sim (Gives v ∷ rs) h
  reply_sim hk hn (Throws v ∷ rs) = λ s t h. take_sim (Throws v ∷ rs) h
  reply_sim hk hn (Back k this args ∷ rs) = λ s t h. and_then_sim (call_back_if hk k this args (is_data this && all_data args) refl _ _ (with_replies rs h)) (λ a b q. hn)

  replies_sim : {call call' : Caller} → K P call call' → (n : ℕ) → Ran P (V P) (replies_to_call call n) (replies_to_call call' n)
  unfolding replies_to_call
  replies_sim hk zero = λ s t h. cut _
  replies_sim {call} {call'} hk (suc n) = λ s t h. subst (λ rs. Sim P (V P) (reply_to_call call (replies_to_call call n) s.replies s) (reply_to_call call' (replies_to_call call' n) rs t)) h.replies (reply_sim hk (replies_sim hk n) s.replies s t h)

  ask_call_sim : {call call' : Caller} → K P call call' → (e : Event) → Ran P (V P) (ask_call call e) (ask_call call' e)
  unfolding ask_call
  ask_call_sim {call} {call'} hk e = λ s t h. subst (λ n. Sim P (V P) (replies_to_call call (length s.replies) (record s { events = s.events ++ e ∷ [] })) (replies_to_call call' n (record t { events = t.events ++ e ∷ [] }))) (ap length h.replies) (replies_sim hk (length s.replies) _ _ (asked e h))

  ask_call_same : {call call' : Caller} → K P call call' → {e f : Event} → e ≡ f → Ran P (V P) (ask_call call e) (ask_call call' f)
  ask_call_same {call} {call'} hk {e} p = subst (λ f. Ran P (V P) (ask_call call e) (ask_call call' f)) p (ask_call_sim hk e)

  pub call_value_sim : {call call' : Caller} {f g t u : Value} {vs ws : Values} → K P call call' → V P f g → V P t u → Vs P vs ws → Ran P (V P) (call_value call f t vs) (call_value call' g u ws)
  unfolding call_value
  call_value_sim hk (function k e r) q rs = hk.by (function k e r) q rs
  call_value_sim hk (token n b) q rs = bind (hand_sim q) (λ t u e. bind (hand_all_sim rs) (λ vs ws d. ask_call_same hk (ap₂ (Calls (Token n b)) e d)))
  call_value_sim hk (own k) q rs = call_handed_sim hk k q rs
  call_value_sim hk _ q rs = type_error_sim

  pub make_value_sim : {call call' : Caller} → K P call call' → {f g : Value} {vs ws : Values} → V P f g → Vs P vs ws → Ran P (V P) (make_value call f vs) (make_value call' g ws)
  unfolding make_value
  make_value_sim hk (token n b) rs = bind (hand_all_sim rs) (λ vs ws d. ask_call_same hk (ap (Makes (Token n b)) d))
  make_value_sim hk (function k e r) rs = leaves_sim leaves
  make_value_sim hk (own k) rs = leaves_sim leaves
  make_value_sim hk _ rs = type_error_sim

  -- lists of meanings

  pub all_values_sim : {ms ns : List Meaning} → Each (M P) ms ns → {c d : Context} → C P c d → Ran P (Vs P) (all_values ms c) (all_values ns d)
  unfolding all_values
  all_values_sim none hc = gives_sim no_value
  all_values_sim (more h hs) hc = bind (h.at _ _ hc) (λ v w r. bind (all_values_sim hs hc) (λ vs ws rs. gives_sim (value r rs)))

  pub in_turn_sim : {ms ns : List Meaning} → Each (M P) ms ns → M P (in_turn ms) (in_turn ns)
  unfolding in_turn
  in_turn_sim none = record { at = λ c d hc. gives_sim undefined }
  in_turn_sim (more h none) = record { at = λ c d hc. h.at c d hc }
  in_turn_sim (more h (more q hs)) = record { at = λ c d hc. bind (h.at c d hc) (λ v w r. (in_turn_sim (more q hs)).at c d hc) }

  pub run_all_sim : {ms ns : List Meaning} → Each (M P) ms ns → M P (run_all ms) (run_all ns)
  unfolding run_all
  run_all_sim none = record { at = λ c d hc. gives_sim undefined }
  run_all_sim (more h hs) = record { at = λ c d hc. bind (h.at c d hc) (λ v w r. (run_all_sim hs).at c d hc) }

  pub spread_sim : {v w : Value} → V P v w → Ran P (Vs P) (spread_items v) (spread_items w)
  spread_sim (items rs) = gives_sim rs
  spread_sim _ = leaves_sim leaves

  item_sim : (k : ItemKind) {v w : Value} → V P v w → Ran P (Vs P) (item_values k v) (item_values k w)
  item_sim Spread r = spread_sim r
  item_sim _ r = gives_sim (value r no_value)

  pub array_items_sim : (ks : List ItemKind) {ms ns : List Meaning} → Each (M P) ms ns → {c d : Context} → C P c d → Ran P (Vs P) (array_items ks ms c) (array_items ks ns d)
  unfolding array_items
  array_items_sim [] none hc = gives_sim no_value
  array_items_sim [] (more h hs) hc = leaves_sim leaves
  array_items_sim (Hole ∷ ks) hs hc = leaves_sim leaves
  array_items_sim (Plain ∷ ks) none hc = leaves_sim leaves
  array_items_sim (Spread ∷ ks) none hc = leaves_sim leaves
  array_items_sim (Plain ∷ ks) (more h hs) hc = bind (h.at _ _ hc) (λ v w r. bind (item_sim Plain r) (λ vs ws rs. bind (array_items_sim ks hs hc) (λ xs ys ps. gives_sim (append_sim rs ps))))
  array_items_sim (Spread ∷ ks) (more h hs) hc = bind (h.at _ _ hc) (λ v w r. bind (item_sim Spread r) (λ vs ws rs. bind (array_items_sim ks hs hc) (λ xs ys ps. gives_sim (append_sim rs ps))))

  pub template_sim : (qs : List (List ℕ × Bool)) {ms ns : List Meaning} → Each (M P) ms ns → {c d : Context} → C P c d → Ran P Eq (template_text qs ms c) (template_text qs ns d)
  unfolding template_text
  template_sim [] hs hc = leaves_sim leaves
  template_sim (q ∷ []) none hc = gives_sim refl
  template_sim (q ∷ r ∷ qs) none hc = leaves_sim leaves
  template_sim (q ∷ []) (more h hs) hc = bind (h.at _ _ hc) (λ v w r. bind (in_core_sim (same_option (same_text r))) (λ t u e. bind (template_sim [] hs hc) (λ x y d. gives_sim (ap₂ (λ t x. q.0 ++ t ++ x) e d))))
  template_sim (q ∷ r ∷ qs) (more h hs) hc = bind (h.at _ _ hc) (λ v w p. bind (in_core_sim (same_option (same_text p))) (λ t u e. bind (template_sim (r ∷ qs) hs hc) (λ x y d. gives_sim (ap₂ (λ t x. q.0 ++ t ++ x) e d))))

  merged_sim : {fs gs : Fields} {v w : Value} → Fs P fs gs → V P v w → Ran P (Fs P) (merged fs v) (merged gs w)
  merged_sim rs (entries qs) = gives_sim (put_fields_sim qs rs)
  merged_sim rs _ = leaves_sim leaves

  pub object_fields_sim : {ms ns : List Meaning} → Each (M P) ms ns → {fs gs : Fields} → Fs P fs gs → {c d : Context} → C P c d → Ran P (Fs P) (object_fields ms fs c) (object_fields ns gs d)
  unfolding object_fields
  object_fields_sim none rs hc = gives_sim rs
  object_fields_sim (more h hs) rs hc = bind (h.at _ _ hc) (λ v w r. bind (merged_sim rs r) (λ fs gs qs. object_fields_sim hs qs hc))

  pub key_text_sim : {v w : Value} → V P v w → Ran P Eq (key_text v) (key_text w)
  key_text_sim r = in_core_sim (same_option (same_text r))

  pub one_field_sim : (k : List ℕ) {v w : Value} → V P v w → Ran P (V P) (one_field k v) (one_field k w)
  one_field_sim k r = if_sim refl (leaves_sim leaves) (gives_sim (entries (entry k r no_entry)))

  -- operators

  pub compute_sim : (op : BinaryOp) {a c b d : Value} → V P a c → V P b d → Ran P (V P) (compute op a b) (compute op c d)
  compute_sim op {a} {c} {b} {d} r q = in_core_sim (maybe_same (same_binary op r q) (binary_data op (prim a) (prim b)))

  same_short : (op : BinaryOp) {v w : Value} → V P v w → short_circuits op v ≡ short_circuits op w
  same_short LogicalAnd r = ap (λ (b : Bool). Some (not b)) (same_truthy r)
  same_short LogicalOr r = ap Some (same_truthy r)
  same_short NullishCoalescing r = ap (λ (b : Bool). Some (not b)) (same_nullish r)
  same_short _ r = refl

  -- the right side is needed, or not, or it is not known before
  shortened_sim : (o p : Option Bool) → o ≡ p → {m n x y k l : Run Value} → Ran P (V P) m n → Ran P (V P) x y → Ran P (V P) k l → Ran P (V P) (shortened o m x k) (shortened p n y l)
  shortened_sim o p e {m} {n} {x} {y} {k} {l} h g f = subst (λ p. Ran P (V P) (shortened o m x k) (shortened p n y l)) e (go o)
    where
      go : (o : Option Bool) → Ran P (V P) (shortened o m x k) (shortened o n y l)
      go None = f
      go (Some true) = h
      go (Some false) = g

  pub operate_sim : (op : BinaryOp) {v w : Value} {m n : Run Value} → V P v w → Ran P (V P) m n → Ran P (V P) (operate op v m) (operate op w n)
  unfolding operate
  operate_sim op r h = shortened_sim _ _ (same_short op r) (gives_sim r) h (bind h (λ a b q. compute_sim op r q))

  pub assign_sim : (op : Option BinaryOp) {old old' right right' : Run Value} {store store' : Value → Run Value} → Ran P (V P) old old' → Ran P (V P) right right' → ((v w : Value) → V P v w → Ran P (V P) (store v) (store' w)) → Ran P (V P) (assign op old right store) (assign op old' right' store')
  unfolding assign
  assign_sim None ho hr hs = bind hr hs
  assign_sim (Some op) ho hr hs =
      bind ho (λ v w r. shortened_sim _ _ (same_short op r) (gives_sim r) (bind hr hs) (bind hr (λ a b q. bind (compute_sim op r q) hs)))

  cond_value : (b : Bool) {v w x y : Value} → V P v w → V P x y → V P (cond b v x) (cond b w y)
  cond_value true r q = r
  cond_value false r q = q

  pub update_sim : (op : UpdateOp) (prefix : Bool) {old old' : Run Value} {store store' : Value → Run Value} → Ran P (V P) old old' → ((v w : Value) → V P v w → Ran P (V P) (store v) (store' w)) → Ran P (V P) (update op prefix old store) (update op prefix old' store')
  unfolding update
  update_sim op prefix ho hs =
      bind ho (λ v w r.
      bind (in_core_sim (same_option (same_number r))) (λ m n e.
      let rn = equal_data (ap number_value e) (numeric_data m) in
      bind (compute_sim _ rn (num (pos 1))) (λ x y q.
      bind (hs x y q) (λ a b u. gives_sim (cond_value prefix q rn)))))

  pub choice_sim : {t t' a a' b b' : Meaning} → M P t t' → M P a a' → M P b b' → M P (choice t a b) (choice t' a' b')
  choice_sim ht ha hb = record { at = λ c d hc. bind (ht.at c d hc) (λ v w r. if_sim (same_truthy r) (ha.at c d hc) (hb.at c d hc)) }

  pub bad_sim : (m : Meaning) → M P bad_shape m
  bad_sim m = record { at = λ c d hc. leaves_sim (m d) }
