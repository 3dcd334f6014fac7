-- The parts that the meanings of nodes are made of, in a run in which names stand for names.
use Rattle.std.proofs.Common.{◌≡◌, ℕ, zero, suc, length, slice_get, refl, pos, Bool, true, false, ◌&&◌, List, [], ◌∷◌, ◌++◌, Option, Some, None, cond, bytes_eq, codes}
use Rattle.std.proofs.lemmas.Bool.{and_parts}
use Rattle.swc_ast.specs.Tree.{Name, ItemKind, Plain, Spread, Hole}
use Rattle.swc_ast.specs.declared.UpdateOp.{UpdateOp}
use Rattle.swc_ast.specs.declared.BinaryOp.{BinaryOp}
use Rattle.swc_ast.specs.Operators.{prim, number_value, to_number, to_text, truthy, is_nullish, binary_value, value_at, values_len, values_append, field_value, insert_field, replace_field, key_before, put_or_replace, put_field, put_fields, field_or_undefined, is_inherited, if_some, index_of, own_property}
use Rattle.swc_ast.specs.Value.{Value, Undefined, ScriptThis, Num, Text, Items as ItemsValue, Record, Function, Token, Own, Values, ∅, ◌▹◌, Fields, nofield, field, is_data, all_data, Event, Gets, Sets, Calls, Makes, Returns, Fails, Reply, Gives, Throws, Back, Natives, State, Jump, Broken, Continued, Returned, Thrown, Outcome, Done, Jumps, Cut, Run, Context, Meaning}
use Rattle.swc_ast.specs.Meaning.{leaves, in_core, inherits, datum, read_member, get, put, get_at, put_at, read_this, token_text, Caller, call_some, call_handed, told, call_back, reply_to_call, replies_to_call, ask_call, call_value, make_value, all_values, in_turn, run_all, spread_items, item_values, array_items, template_text, merged, object_fields, key_text, one_field, compute, step_of, short_circuits, shortened, operate, assign, update, choice, bad_shape, shape0, shape1, shape2, shape3, shape1+, shape2+, shape_if, shape_return, plain, loop_goes_on, after_jump, turn, turns, do_turns, at_label, at_break, at_return}
use Rattle.swc_ast.specs.Call.{at_call}
use Rattle.link_proofs.specs.Links.{Links, Ground, Proper}
use Rattle.meaning_proofs.proofs.Results.{DataIn, binary_data, numeric_data}
use Rattle.meaning_proofs.proofs.Members.{text_data}
use Rattle.link_proofs.proofs.State.{World, Any, Grown, grown_itself, grown_on, Fine, fine_up, Fines, fines_up, FineFields, fields_up, FineContext, context_up, FineJump, FineState, Later, Nothing, Ends, done, jump, outside, cut, Runs, Safe, SafeCalls, after, then_ends, gives_safe, leaves_safe, jumps_safe, type_error_safe, if_safe, in_core_safe, bind}
use Rattle.link_proofs.proofs.Stores.{data_fine, all_data_fine, fine_with, later_with, take_safe, ask_safe, tell_event_safe, hand_safe, hand_all_safe, tell_safe}

-- two lists of meanings, one by one
pub data Both (R : Meaning → Meaning → Type 0) : List Meaning → List Meaning → Type 0 where
  none : Both R [] []
  more : {m n : Meaning} {ms ns : List Meaning} → R m n → Both R ms ns → Both R (m ∷ ms) (n ∷ ns)

-- a context in which names G are in scope
abbrev pub Around : Links → Ground → World → Context → Type 0
Around L G w c = FineContext L w G c

abbrev pub FineIn : Links → World → Option Value → Type 0
FineIn L w None = Unit {0}
FineIn L w (Some v) = Fine L w v

pub data_in : (L : Links) (w : World) (o : Option Value) → DataIn o → FineIn L w o
data_in L w None h = tt
data_in L w (Some v) h = data_fine L w v h

-- members

value_at_fine : (L : Links) (w : World) (vs : Values) → Fines L w vs → (i : ℕ) → FineIn L w (value_at vs i)
value_at_fine L w ∅ h i = tt
value_at_fine L w (v ▹ vs) h zero = h.0
value_at_fine L w (v ▹ vs) h (suc i) = value_at_fine L w vs h.1 i

cond_in : (L : Links) (w : World) (b : Bool) (o p : Option Value) → FineIn L w o → FineIn L w p → FineIn L w (cond b o p)
cond_in L w true o p h g = h
cond_in L w false o p h g = g

field_value_fine : (L : Links) (w : World) (fs : Fields) → FineFields L w fs → (k : List ℕ) → FineIn L w (field_value fs k)
field_value_fine L w nofield h k = tt
field_value_fine L w (field l v fs) h k = cond_in L w (bytes_eq l k) (Some v) (field_value fs k) h.0 (field_value_fine L w fs h.1 k)

or_undefined_fine : (L : Links) (w : World) (o : Option Value) (k : List ℕ) → FineIn L w o → FineIn L w (field_or_undefined o k)
or_undefined_fine L w (Some v) k h = h
or_undefined_fine L w None k h = cond_in L w (is_inherited k) None (Some Undefined) tt tt

item_at_fine : (L : Links) (w : World) (vs : Values) → Fines L w vs → (o : Option ℕ) → FineIn L w (if_some o (value_at vs))
item_at_fine L w vs h None = tt
item_at_fine L w vs h (Some i) = value_at_fine L w vs h i

own_property_fine : (L : Links) (w : World) (v : Value) → Fine L w v → (k : List ℕ) → FineIn L w (own_property v k)
unfolding own_property
own_property_fine L w (Record fs) h k = or_undefined_fine L w (field_value fs k) k (field_value_fine L w fs h k)
own_property_fine L w (ItemsValue vs) h k = cond_in L w (bytes_eq k (codes "length")) (Some (Num (pos (values_len vs)))) (if_some (index_of k) (value_at vs)) tt (item_at_fine L w vs h (index_of k))
own_property_fine L w (Text t) h k = data_in L w (own_property (Text t) k) (text_data t k)
own_property_fine L w _ h k = tt

append_fine : (L : Links) (w : World) (vs us : Values) → Fines L w vs → Fines L w us → Fines L w (values_append vs us)
append_fine L w ∅ us h g = g
append_fine L w (v ▹ vs) us h g = (h.0, append_fine L w vs us h.1 g)

cond_fields : (L : Links) (w : World) (b : Bool) (fs gs : Fields) → FineFields L w fs → FineFields L w gs → FineFields L w (cond b fs gs)
cond_fields L w true fs gs h g = h
cond_fields L w false fs gs h g = g

insert_fine : (L : Links) (w : World) (k : List ℕ) (v : Value) (fs : Fields) → Fine L w v → FineFields L w fs → FineFields L w (insert_field k v fs)
insert_fine L w k v nofield r h = (r, tt)
insert_fine L w k v (field l u fs) r h = cond_fields L w (key_before k l) (field k v (field l u fs)) (field l u (insert_field k v fs)) (r, h) (h.0, insert_fine L w k v fs r h.1)

replace_fine : (L : Links) (w : World) (k : List ℕ) (v : Value) (fs : Fields) → Fine L w v → FineFields L w fs → FineFields L w (replace_field k v fs)
replace_fine L w k v nofield r h = tt
replace_fine L w k v (field l u fs) r h = cond_fields L w (bytes_eq l k) (field l v fs) (field l u (replace_field k v fs)) (r, h.1) (h.0, replace_fine L w k v fs r h.1)

put_or_replace_fine : (L : Links) (w : World) (o : Option Value) (fs : Fields) (k : List ℕ) (v : Value) → FineFields L w fs → Fine L w v → FineFields L w (put_or_replace o fs k v)
put_or_replace_fine L w None fs k v h r = insert_fine L w k v fs r h
put_or_replace_fine L w (Some u) fs k v h r = replace_fine L w k v fs r h

put_fields_fine : (L : Links) (w : World) (gs fs : Fields) → FineFields L w gs → FineFields L w fs → FineFields L w (put_fields fs gs)
put_fields_fine L w nofield fs h g = g
put_fields_fine L w (field k v gs) fs h g = put_fields_fine L w gs (put_field fs k v) h.1 (put_or_replace_fine L w (field_value fs k) fs k v g h.0)

module _ {L : Links} {mark : ℕ} (P : Proper L mark) where
  module _ {F : Name → ℕ → Type 0} where
    pub core_fine : (w : World) (o : Option Value) → FineIn L w o → Runs L F (Fine L) w (in_core o) (in_core o)
    core_fine w None h = leaves_safe leaves
    core_fine w (Some v) h = gives_safe v h

    pub core_any : {A : Type 0} (w : World) (o : Option A) → Runs L F Any w (in_core o) (in_core o)
    core_any w o = in_core_safe o (λ a e. tt)

    member_safe : (w : World) (o : Option Natives) (v : Value) (k : List ℕ) → Fine L w v → Runs L F (Fine L) w (read_member o v k) (read_member o v k)
    member_safe w None v k h = core_fine w (own_property v k) (own_property_fine L w v h k)
    member_safe w (Some n) v k h = λ s i. core_fine w (datum (s.natives n k)) (datum_fine w (s.natives n k)) s i
      where
        datum_fine : (w : World) (v : Value) → FineIn L w (datum v)
        datum_fine w v = go (is_data v) refl
          where
            go : (b : Bool) → is_data v ≡ b → FineIn L w (cond b (Some v) None)
            go true e = data_fine L w v e
            go false e = tt

    pub get_safe : (w : World) (v : Value) (k : List ℕ) → Fine L w v → Runs L F (Fine L) w (get v k) (get v k)
    unfolding get
    get_safe w v k h = if_safe (token_text v) (ask_safe P w (Gets v k)) (if_safe (is_nullish v) type_error_safe (member_safe w (inherits v k) v k h))

    pub put_safe : (w : World) (o : Value) (k : List ℕ) (v : Value) → Fine L w v → Runs L F (Fine L) w (put o k v) (put o k v)
    unfolding put
    put_safe w o k v h = if_safe (token_text o) (tell_safe P w (Sets o k) v h) (if_safe (is_nullish o) type_error_safe (leaves_safe leaves))

    pub get_at_safe : (w : World) (o k : Value) → Fine L w o → Runs L F (Fine L) w (get_at o k) (get_at o k)
    unfolding get_at
    get_at_safe w o k h = if_safe (is_nullish o) type_error_safe (bind (core_any w (to_text k)) (λ v g t r. get_safe v o t (fine_up L g o h)))

    pub put_at_safe : (w : World) (o k v : Value) → Fine L w v → Runs L F (Fine L) w (put_at o k v) (put_at o k v)
    unfolding put_at
    put_at_safe w o k v h = if_safe (is_nullish o) type_error_safe (bind (core_any w (to_text k)) (λ u g t r. put_safe u o t v (fine_up L g v h)))

    pub read_this_safe : (w : World) (v : Value) → Fine L w v → Runs L F (Fine L) w (read_this v) (read_this v)
    read_this_safe w ScriptThis h = leaves_safe leaves
    read_this_safe w v h = gives_safe v h

    -- operators

    pub compute_safe : (w : World) (op : BinaryOp) (a b : Value) → Runs L F (Fine L) w (compute op a b) (compute op a b)
    compute_safe w op a b = core_fine w (binary_value op a b) (data_in L w _ (binary_data op (prim a) (prim b)))

    pub shortened_safe : (w : World) (o : Option Bool) {m n x y k l : Run Value} → Runs L F (Fine L) w m n → Runs L F (Fine L) w x y → Runs L F (Fine L) w k l → Runs L F (Fine L) w (shortened o m x k) (shortened o n y l)
    shortened_safe w None h g f = f
    shortened_safe w (Some true) h g f = h
    shortened_safe w (Some false) h g f = g

    pub operate_safe : (w : World) (op : BinaryOp) (v : Value) {m n : Run Value} → Fine L w v → Runs L F (Fine L) w m n → Runs L F (Fine L) w (operate op v m) (operate op v n)
    unfolding operate
    operate_safe w op v r h = shortened_safe w (short_circuits op v) (gives_safe v r) h (bind h (λ u g b q. compute_safe u op v b))

    pub assign_safe : (w : World) (op : Option BinaryOp) {old old' right right' : Run Value} {store store' : Value → Run Value} → Runs L F (Fine L) w old old' → ((u : World) → Grown w u → Runs L F (Fine L) u right right') → ((u : World) → Grown w u → (v : Value) → Fine L u v → Runs L F (Fine L) u (store v) (store' v))
        → Runs L F (Fine L) w (assign op old right store) (assign op old' right' store')
    unfolding assign
    assign_safe w None ho hr hs = bind (hr w grown_itself) (λ u g v r. hs u g v r)
    assign_safe w (Some op) ho hr hs =
        bind ho (λ u g a r. shortened_safe u (short_circuits op a) (gives_safe a r)
        (bind (hr u g) (λ x p v q. hs x (grown_on g p) v q))
        (bind (hr u g) (λ x p b q. bind (compute_safe x op a b) (λ y o v z. hs y (grown_on g (grown_on p o)) v z))))

    pub update_safe : (w : World) (op : UpdateOp) (prefix : Bool) {old old' : Run Value} {store store' : Value → Run Value} → Runs L F (Fine L) w old old' → ((u : World) → Grown w u → (v : Value) → Fine L u v → Runs L F (Fine L) u (store v) (store' v))
        → Runs L F (Fine L) w (update op prefix old store) (update op prefix old' store')
    unfolding update
    update_safe w op prefix ho hs =
        bind ho (λ u g a r.
        bind (core_any u (to_number a)) (λ x p n q.
        bind (compute_safe x (step_of op) (number_value n) (Num (pos 1))) (λ y o new z.
        bind (hs y (grown_on g (grown_on p o)) new z) (λ v i b j.
        gives_safe (cond prefix new (number_value n)) (either prefix v new (number_value n) (fine_up L i new z) (data_fine L v (number_value n) (numeric_data n)))))))
      where
        either : (b : Bool) (w : World) (u v : Value) → Fine L w u → Fine L w v → Fine L w (cond b u v)
        either true w u v h g = h
        either false w u v h g = g

    pub one_field_safe : (w : World) (k : List ℕ) (v : Value) → Fine L w v → Runs L F (Fine L) w (one_field k v) (one_field k v)
    one_field_safe w k v h = if_safe _ (leaves_safe leaves) (gives_safe (Record (field k v nofield)) (h, tt))

    pub key_text_safe : (w : World) (v : Value) → Runs L F Any w (key_text v) (key_text v)
    key_text_safe w v = core_any w (to_text v)

    pub spread_safe : (w : World) (v : Value) → Fine L w v → Runs L F (Fines L) w (spread_items v) (spread_items v)
    spread_safe w (ItemsValue vs) h = gives_safe vs h
    spread_safe w _ h = leaves_safe leaves

    pub item_safe : (w : World) (k : ItemKind) (v : Value) → Fine L w v → Runs L F (Fines L) w (item_values k v) (item_values k v)
    item_safe w Spread v h = spread_safe w v h
    item_safe w Plain v h = gives_safe (v ▹ ∅) (h, tt)
    item_safe w Hole v h = gives_safe (v ▹ ∅) (h, tt)

    pub merged_safe : (w : World) (fs : Fields) (v : Value) → FineFields L w fs → Fine L w v → Runs L F (FineFields L) w (merged fs v) (merged fs v)
    merged_safe w fs (Record gs) h r = gives_safe (put_fields fs gs) (put_fields_fine L w gs fs r h)
    merged_safe w fs _ h r = leaves_safe leaves

  -- calls

  call_some_safe : {call call' : Caller} → SafeCalls L call call' → (w : World) (o : Option Value) (t : Value) (vs : Values) → ((v : Value) → o ≡ Some v → Fine L w v) → Fine L w t → Fines L w vs → Runs L Nothing (Fine L) w (call_some call o t vs) (call_some call' o t vs)
  call_some_safe hk w None t vs hf ht hs = leaves_safe leaves
  call_some_safe hk w (Some f) t vs hf ht hs = hk.by w f t vs (hf f refl) ht hs

  pub call_handed_safe : {call call' : Caller} → SafeCalls L call call' → (w : World) (k : ℕ) (t : Value) (vs : Values) → Fine L w t → Fines L w vs → Runs L Nothing (Fine L) w (call_handed call k t vs) (call_handed call' k t vs)
  unfolding call_handed
  call_handed_safe hk w k t vs ht hs s h = call_some_safe hk w (slice_get s.handed k) t vs (λ v e. h.handed k v e) ht hs s h

  -- the host calls functions that were handed to it

  told_ends : {w : World} {s : State} {o p : Outcome Value} → Ends L Nothing (Fine L) w s o p → Ends L Nothing (Fine L) w s (told o) (told p)
  told_ends (done {a} {v} {t} l h r) = after l (then_ends (hand_safe P v a r t h) (λ u g b q. tell_event_safe P u (Returns b)))
  told_ends (jump {j = Thrown a} {v} {t} l h r) = after l (then_ends (hand_safe P v a r t h) (λ u g b q. tell_event_safe P u (Fails b)))
  told_ends (jump {j = Broken k} l h r) = outside _
  told_ends (jump {j = Continued k} l h r) = outside _
  told_ends (jump {j = Returned v} l h r) = outside _
  told_ends (outside o) = outside _
  told_ends (cut o) = cut _

  call_back_safe : {call call' : Caller} → SafeCalls L call call' → (w : World) (k : ℕ) (t : Value) (vs : Values) → Runs L Nothing (Fine L) w (call_back call k t vs) (call_back call' k t vs)
  call_back_safe {call} {call'} hk w k t vs = go (is_data t && all_data vs) refl
    where
      go : (b : Bool) → (is_data t && all_data vs) ≡ b → Runs L Nothing (Fine L) w (cond b (λ (s : State). told (call_handed call k t vs s)) leaves) (cond b (λ (s : State). told (call_handed call' k t vs s)) leaves)
      go true e = λ s h. let p = and_parts (is_data t) (all_data vs) e in told_ends (call_handed_safe hk w k t vs (data_fine L w t p.0) (all_data_fine L w vs p.1) s h)
      go false e = leaves_safe leaves

  reply_safe : {call call' : Caller} → SafeCalls L call call' → {next next' : Run Value} → ((w : World) → Runs L Nothing (Fine L) w next next') → (w : World) (rs : List Reply) → Runs L Nothing (Fine L) w (reply_to_call call next rs) (reply_to_call call' next' rs)
  reply_safe hk hn w [] = λ s h. take_safe P w [] s h
  reply_safe hk hn w (Gives v ∷ rs) = λ s h. take_safe P w (Gives v ∷ rs) s h
  reply_safe hk hn w (Throws v ∷ rs) = λ s h. take_safe P w (Throws v ∷ rs) s h
  reply_safe hk hn w (Back k t vs ∷ rs) = λ s h. after (later_with P w s s.events rs s.handed) (then_ends (call_back_safe hk w k t vs (record s { replies = rs }) (fine_with P w s s.events rs s.handed h h.handed)) (λ u g v r. hn u))

  replies_safe : {call call' : Caller} → SafeCalls L call call' → (n : ℕ) (w : World) → Runs L Nothing (Fine L) w (replies_to_call call n) (replies_to_call call' n)
  unfolding replies_to_call
  replies_safe hk zero w = λ s h. cut _
  replies_safe hk (suc n) w = λ s h. reply_safe hk (replies_safe hk n) w s.replies s h

  ask_call_safe : {call call' : Caller} → SafeCalls L call call' → (w : World) (e : Event) → Runs L Nothing (Fine L) w (ask_call call e) (ask_call call' e)
  unfolding ask_call
  ask_call_safe hk w e = λ s h. let es = s.events ++ e ∷ [] in after (later_with P w s es s.replies s.handed) (replies_safe hk (length s.replies) w (record s { events = es }) (fine_with P w s es s.replies s.handed h h.handed))

  pub call_value_safe : {call call' : Caller} → SafeCalls L call call' → (w : World) (f t : Value) (vs : Values) → Fine L w f → Fine L w t → Fines L w vs → Runs L Nothing (Fine L) w (call_value call f t vs) (call_value call' f t vs)
  unfolding call_value
  call_value_safe hk w (Function f e u) t vs hf ht hs = hk.by w (Function f e u) t vs hf ht hs
  call_value_safe hk w (Token n b) t vs hf ht hs = bind (hand_safe P w t ht) (λ u g a q. bind (hand_all_safe P u vs (fines_up L g vs hs)) (λ x p us r. ask_call_safe hk x (Calls (Token n b) a us)))
  call_value_safe hk w (Own k) t vs hf ht hs = call_handed_safe hk w k t vs ht hs
  call_value_safe hk w _ t vs hf ht hs = type_error_safe

  pub make_value_safe : {call call' : Caller} → SafeCalls L call call' → (w : World) (v : Value) (vs : Values) → Fines L w vs → Runs L Nothing (Fine L) w (make_value call v vs) (make_value call' v vs)
  unfolding make_value
  make_value_safe hk w (Token n b) vs hs = bind (hand_all_safe P w vs hs) (λ u g us q. ask_call_safe hk u (Makes (Token n b) us))
  make_value_safe hk w (Function f e t) vs hs = leaves_safe leaves
  make_value_safe hk w (Own k) vs hs = leaves_safe leaves
  make_value_safe hk w _ vs hs = type_error_safe

  -- turns

  after_jump_ends : {w v : World} {s t : State} (o : Option Bool) (j : Jump) → Later L Nothing w s v t → FineState L v t → FineJump L v j → Ends L Nothing Any w s (after_jump o j t) (after_jump o j t)
  after_jump_ends None j l h r = jump l h r
  after_jump_ends (Some b) j l h r = done l h tt

  turn_ends : {w : World} {s : State} (labels : List (List ℕ)) {o p : Outcome Value} → Ends L Nothing (Fine L) w s o p → Ends L Nothing Any w s (turn labels o) (turn labels p)
  unfolding turn
  turn_ends labels (done l h r) = done l h tt
  turn_ends labels (jump {j} l h r) = after_jump_ends (loop_goes_on labels j) j l h r
  turn_ends labels (outside o) = outside _
  turn_ends labels (cut o) = cut _

  -- lists of meanings, where names G are in scope

  module _ {G : Ground} where
    pub all_values_safe : {ms ns : List Meaning} → Both (Safe L G) ms ns → (w : World) (c : Context) → FineContext L w G c → Runs L Nothing (Fines L) w (all_values ms c) (all_values ns c)
    unfolding all_values
    all_values_safe none w c hc = gives_safe ∅ tt
    all_values_safe (more h hs) w c hc = bind (h.at w c hc) (λ u g v r. bind (all_values_safe hs u c (context_up g hc)) (λ x p vs rs. gives_safe (v ▹ vs) (fine_up L p v r, rs)))

    pub in_turn_safe : {ms ns : List Meaning} → Both (Safe L G) ms ns → Safe L G (in_turn ms) (in_turn ns)
    unfolding in_turn
    in_turn_safe none = record { at = λ w c hc. gives_safe Undefined tt }
    in_turn_safe (more h none) = record { at = λ w c hc. h.at w c hc }
    in_turn_safe (more h (more q hs)) = record { at = λ w c hc. bind (h.at w c hc) (λ u g v r. (in_turn_safe (more q hs)).at u c (context_up g hc)) }

    pub run_all_safe : {ms ns : List Meaning} → Both (Safe L G) ms ns → Safe L G (run_all ms) (run_all ns)
    unfolding run_all
    run_all_safe none = record { at = λ w c hc. gives_safe Undefined tt }
    run_all_safe (more h hs) = record { at = λ w c hc. bind (h.at w c hc) (λ u g v r. (run_all_safe hs).at u c (context_up g hc)) }

    pub array_items_safe : (ks : List ItemKind) {ms ns : List Meaning} → Both (Safe L G) ms ns → (w : World) (c : Context) → FineContext L w G c → Runs L Nothing (Fines L) w (array_items ks ms c) (array_items ks ns c)
    unfolding array_items
    array_items_safe [] none w c hc = gives_safe ∅ tt
    array_items_safe [] (more h hs) w c hc = leaves_safe leaves
    array_items_safe (Hole ∷ ks) hs w c hc = leaves_safe leaves
    array_items_safe (Plain ∷ ks) none w c hc = leaves_safe leaves
    array_items_safe (Spread ∷ ks) none w c hc = leaves_safe leaves
    array_items_safe (Plain ∷ ks) (more h hs) w c hc = bind (h.at w c hc) (λ u g v r. bind (item_safe u Plain v r) (λ x p vs rs. bind (array_items_safe ks hs x c (context_up (grown_on g p) hc)) (λ y q us qs. gives_safe (values_append vs us) (append_fine L y vs us (fines_up L q vs rs) qs))))
    array_items_safe (Spread ∷ ks) (more h hs) w c hc = bind (h.at w c hc) (λ u g v r. bind (item_safe u Spread v r) (λ x p vs rs. bind (array_items_safe ks hs x c (context_up (grown_on g p) hc)) (λ y q us qs. gives_safe (values_append vs us) (append_fine L y vs us (fines_up L q vs rs) qs))))

    pub template_safe : (qs : List (List ℕ × Bool)) {ms ns : List Meaning} → Both (Safe L G) ms ns → (w : World) (c : Context) → FineContext L w G c → Runs L Nothing Any w (template_text qs ms c) (template_text qs ns c)
    unfolding template_text
    template_safe [] hs w c hc = leaves_safe _
    template_safe (q ∷ []) none w c hc = gives_safe q.0 tt
    template_safe (q ∷ r ∷ qs) none w c hc = leaves_safe leaves
    template_safe (q ∷ []) (more h hs) w c hc = bind (h.at w c hc) (λ u g v r. bind (core_any u (to_text v)) (λ x p t z. bind (template_safe [] hs x c (context_up (grown_on g p) hc)) (λ y o rest d. gives_safe (q.0 ++ t ++ rest) tt)))
    template_safe (q ∷ r ∷ qs) (more h hs) w c hc = bind (h.at w c hc) (λ u g v z. bind (core_any u (to_text v)) (λ x p t a. bind (template_safe (r ∷ qs) hs x c (context_up (grown_on g p) hc)) (λ y o rest d. gives_safe (q.0 ++ t ++ rest) tt)))

    pub object_fields_safe : {ms ns : List Meaning} → Both (Safe L G) ms ns → (fs : Fields) (w : World) (c : Context) → FineFields L w fs → FineContext L w G c → Runs L Nothing (FineFields L) w (object_fields ms fs c) (object_fields ns fs c)
    unfolding object_fields
    object_fields_safe none fs w c hf hc = gives_safe fs hf
    object_fields_safe (more h hs) fs w c hf hc = bind (h.at w c hc) (λ u g v r. bind (merged_safe u fs v (fields_up L g fs hf) r) (λ x p gs q. object_fields_safe hs gs x c q (context_up (grown_on g p) hc)))

    pub choice_safe : {t t' a a' b b' : Meaning} → Safe L G t t' → Safe L G a a' → Safe L G b b' → Safe L G (choice t a b) (choice t' a' b')
    choice_safe ht ha hb = record { at = λ w c hc. bind (ht.at w c hc) (λ u g v r. if_safe (truthy v) (ha.at u c (context_up g hc)) (hb.at u c (context_up g hc))) }

    pub bad_safe : (m : Meaning) → Safe L G bad_shape m
    bad_safe m = record { at = λ w c hc. leaves_safe (m c) }

    -- a number of children

    pub shape0_safe : {f g : Meaning} {ms ns : List Meaning} → Safe L G f g → Both (Safe L G) ms ns → Safe L G (shape0 f ms) (shape0 g ns)
    shape0_safe h none = h
    shape0_safe h (more a hs) = bad_safe bad_shape

    pub shape1_safe : {f g : Meaning → Meaning} {ms ns : List Meaning} → ((m n : Meaning) → Safe L G m n → Safe L G (f m) (g n)) → Both (Safe L G) ms ns → Safe L G (shape1 f ms) (shape1 g ns)
    shape1_safe h (more a none) = h _ _ a
    shape1_safe h none = bad_safe bad_shape
    shape1_safe h (more a (more b hs)) = bad_safe bad_shape

    pub shape2_safe : {f g : Meaning → Meaning → Meaning} {ms ns : List Meaning} → ((a a' b b' : Meaning) → Safe L G a a' → Safe L G b b' → Safe L G (f a b) (g a' b')) → Both (Safe L G) ms ns → Safe L G (shape2 f ms) (shape2 g ns)
    shape2_safe h (more a (more b none)) = h _ _ _ _ a b
    shape2_safe h none = bad_safe bad_shape
    shape2_safe h (more a none) = bad_safe bad_shape
    shape2_safe h (more a (more b (more x hs))) = bad_safe bad_shape

    pub shape3_safe : {f g : Meaning → Meaning → Meaning → Meaning} {ms ns : List Meaning} → ((a a' b b' x x' : Meaning) → Safe L G a a' → Safe L G b b' → Safe L G x x' → Safe L G (f a b x) (g a' b' x')) → Both (Safe L G) ms ns → Safe L G (shape3 f ms) (shape3 g ns)
    shape3_safe h (more a (more b (more x none))) = h _ _ _ _ _ _ a b x
    shape3_safe h none = bad_safe bad_shape
    shape3_safe h (more a none) = bad_safe bad_shape
    shape3_safe h (more a (more b none)) = bad_safe bad_shape
    shape3_safe h (more a (more b (more x (more y hs)))) = bad_safe bad_shape

    pub shape1+_safe : {f g : Meaning → List Meaning → Meaning} {ms ns : List Meaning} → ((m n : Meaning) (xs ys : List Meaning) → Safe L G m n → Both (Safe L G) xs ys → Safe L G (f m xs) (g n ys)) → Both (Safe L G) ms ns → Safe L G (shape1+ f ms) (shape1+ g ns)
    shape1+_safe h none = bad_safe bad_shape
    shape1+_safe h (more a hs) = h _ _ _ _ a hs

    pub shape2+_safe : {f g : Meaning → Meaning → List Meaning → Meaning} {ms ns : List Meaning} → ((a a' b b' : Meaning) (xs ys : List Meaning) → Safe L G a a' → Safe L G b b' → Both (Safe L G) xs ys → Safe L G (f a b xs) (g a' b' ys)) → Both (Safe L G) ms ns → Safe L G (shape2+ f ms) (shape2+ g ns)
    shape2+_safe h (more a (more b hs)) = h _ _ _ _ _ _ a b hs
    shape2+_safe h none = bad_safe bad_shape
    shape2+_safe h (more a none) = bad_safe bad_shape

    pub if_node_safe : {ms ns : List Meaning} → Both (Safe L G) ms ns → Safe L G (shape_if ms) (shape_if ns)
    if_node_safe (more t (more a none)) = choice_safe t a (record { at = λ w c hc. gives_safe Undefined tt })
    if_node_safe (more t (more a (more b none))) = choice_safe t a b
    if_node_safe none = bad_safe bad_shape
    if_node_safe (more t none) = bad_safe bad_shape
    if_node_safe (more t (more a (more b (more x hs)))) = bad_safe bad_shape

    pub return_safe : {ms ns : List Meaning} → Both (Safe L G) ms ns → Safe L G (shape_return ms) (shape_return ns)
    return_safe none = record { at = λ w c hc. jumps_safe (Returned Undefined) tt }
    return_safe (more h none) = record { at = λ w c hc. bind (h.at w c hc) (λ u g v r. jumps_safe (Returned v) r) }
    return_safe (more a (more b hs)) = bad_safe bad_shape

    -- loops

    pub plain_fine : {w : World} {c : Context} → FineContext L w G c → FineContext L w G (plain c)
    plain_fine hc = record { env = hc.env; this = hc.this }

    turn_safe : {m n : Meaning} → Safe L G m n → (w : World) (c : Context) → FineContext L w G c → Runs L Nothing Any w (λ s. turn c.labels (m (plain c) s)) (λ s. turn c.labels (n (plain c) s))
    turn_safe hm w c hc = λ s h. turn_ends c.labels (hm.at w (plain c) (plain_fine hc) s h)

    pub turns_safe : (n : ℕ) {test test' body body' update update' : Meaning} {next next' : Context → Run Context} → Safe L G test test' → Safe L G body body' → ((w : World) (c : Context) → FineContext L w G c → Runs L Nothing (Around L G) w (next c) (next' c)) → Safe L G update update'
        → (w : World) (c : Context) → FineContext L w G c → Runs L Nothing (Fine L) w (turns n test body next update c) (turns n test' body' next' update' c)
    unfolding turns
    turns_safe zero ht hb hn hu w c hc = bind (ht.at w (plain c) (plain_fine hc)) (λ u g v r. if_safe (truthy v) (λ s h. cut Cut) (gives_safe Undefined tt))
    turns_safe (suc n) ht hb hn hu w c hc =
        bind (ht.at w (plain c) (plain_fine hc)) (λ u g v r. if_safe (truthy v)
        (bind (turn_safe hb u c (context_up g hc)) (λ x p b q. if_safe b
        (bind (hn x c (context_up (grown_on g p) hc)) (λ y o d hd. bind (hu.at y (plain d) (plain_fine hd)) (λ z i a j. turns_safe n ht hb hn hu z d (context_up i hd))))
        (gives_safe Undefined tt)))
        (gives_safe Undefined tt))

    pub do_turns_safe : (n : ℕ) {test test' body body' : Meaning} → Safe L G body body' → Safe L G test test' → (w : World) (c : Context) → FineContext L w G c → Runs L Nothing (Fine L) w (do_turns n body test c) (do_turns n body' test' c)
    unfolding do_turns
    do_turns_safe zero hb ht w c hc = λ s h. cut Cut
    do_turns_safe (suc n) hb ht w c hc =
        bind (turn_safe hb w c hc) (λ u g b q. if_safe b
        (bind (ht.at u (plain c) (plain_fine (context_up g hc))) (λ x p v r. if_safe (truthy v) (do_turns_safe n hb ht x c (context_up (grown_on g p) hc)) (gives_safe Undefined tt)))
        (gives_safe Undefined tt))

  -- labels and ends

  module _ {F : Name → ℕ → Type 0} {w : World} {s : State} where
    label_if : {v : World} {t : State} (b : Bool) (m : List ℕ) → Later L F w s v t → FineState L v t → Ends L F (Fine L) w s (cond b (Done Undefined t) (Jumps (Broken (Some m)) t)) (cond b (Done Undefined t) (Jumps (Broken (Some m)) t))
    label_if true m l h = done l h tt
    label_if false m l h = jump l h tt

    pub at_label_ends : (l : List ℕ) {o p : Outcome Value} → Ends L F (Fine L) w s o p → Ends L F (Fine L) w s (at_label l o) (at_label l p)
    unfolding at_label
    at_label_ends l (done m h r) = done m h r
    at_label_ends l (jump {j = Broken (Some k)} m h r) = label_if (bytes_eq l k) k m h
    at_label_ends l (jump {j = Broken None} m h r) = jump m h r
    at_label_ends l (jump {j = Continued k} m h r) = jump m h r
    at_label_ends l (jump {j = Returned v} m h r) = jump m h r
    at_label_ends l (jump {j = Thrown v} m h r) = jump m h r
    at_label_ends l (outside o) = outside _
    at_label_ends l (cut o) = cut _

    pub at_break_ends : {o p : Outcome Value} → Ends L F (Fine L) w s o p → Ends L F (Fine L) w s (at_break o) (at_break p)
    unfolding at_break
    at_break_ends (done m h r) = done m h r
    at_break_ends (jump {j = Broken None} m h r) = done m h tt
    at_break_ends (jump {j = Broken (Some k)} m h r) = jump m h r
    at_break_ends (jump {j = Continued k} m h r) = jump m h r
    at_break_ends (jump {j = Returned v} m h r) = jump m h r
    at_break_ends (jump {j = Thrown v} m h r) = jump m h r
    at_break_ends (outside o) = outside _
    at_break_ends (cut o) = cut _

    pub at_return_ends : {o p : Outcome Value} → Ends L F (Fine L) w s o p → Ends L F (Fine L) w s (at_return o) (at_return p)
    unfolding at_return
    at_return_ends (done m h r) = done m h tt
    at_return_ends (jump {j = Broken k} m h r) = outside _
    at_return_ends (jump {j = Continued k} m h r) = outside _
    at_return_ends (jump {j = Returned v} m h r) = done m h r
    at_return_ends (jump {j = Thrown v} m h r) = jump m h r
    at_return_ends (outside o) = outside _
    at_return_ends (cut o) = cut _

    pub at_call_ends : {o p : Outcome Value} → Ends L F (Fine L) w s o p → Ends L F (Fine L) w s (at_call o) (at_call p)
    at_call_ends (done m h r) = done m h r
    at_call_ends (jump {j = Broken k} m h r) = outside _
    at_call_ends (jump {j = Continued k} m h r) = outside _
    at_call_ends (jump {j = Returned v} m h r) = outside _
    at_call_ends (jump {j = Thrown v} m h r) = jump m h r
    at_call_ends (outside o) = outside _
    at_call_ends (cut o) = cut _
