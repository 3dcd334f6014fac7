-- Runs that end by no jump of a kind, and what is made of them.
use Rattle.std.proofs.Common.{◌≡◌, ℕ, zero, suc, Bool, true, false, not, ◌&&◌, ◌||◌, if◌then◌else◌, List, [], ◌∷◌, ◌++◌, Option, Some, None, refl, sym, subst, length, slice_get, bytes_eq, codes}
use Rattle.swc_ast.specs.declared.UpdateOp.{UpdateOp}
use Rattle.swc_ast.specs.declared.BinaryOp.{BinaryOp}
use Rattle.swc_ast.specs.declared.VarDeclKind.{VarDeclKind}
use Rattle.swc_ast.specs.declared.VarDeclKind.TheVariants.{Var, Let, Const}
use Rattle.swc_ast.specs.Tree.{Text, Name, ItemKind, Plain, Spread, Hole, Tree, Forest}
use Rattle.swc_ast.specs.Value.{Env, Value, Undefined, Null, NaN, TypeError, ScriptThis, Truth, Num, Text as TextValue, Items, Record, Function, Token, Own, Values, ∅, ◌▹◌, Fields, nofield, field, Event, Reads, Returns, Fails, Reply, Gives, Throws, Back, Natives, Cell, State, Broken, Continued, Returned, Thrown, Outcome, Done, Jumps, Outside, Cut, Run, and_then, Context, Meaning, is_data, all_data}
use Rattle.swc_ast.specs.Operators.{truthy, is_nullish, to_text, to_number, strict_equal, prim, own_property}
use Rattle.swc_ast.specs.Scope.{Declared, case_statements}
use Rattle.swc_ast.specs.Meaning.{◌>>=◌, gives, leaves, in_core, take_reply, ask, tell, hand, hand_all, hand_fields, checked_type, is_type_name, is_unresolved, read, read_host, read_bound, held_value, cell_at, write, write_host, write_bound, write_cell, is_initialised, initialise, initialise_bound, initialise_cell, Scope, numbered, in_scope, token_text, inherits, datum, read_member, get, put, Caller, call_some, call_handed, told, call_back, reply_to_call, replies_to_call, ask_call, call_value, make_value, read_this, get_at, put_at, shape0, shape1, shape2, shape3, shape1+, shape2+, all_values, in_turn, run_all, spread_items, item_values, array_items, merged, object_fields, one_field, short_circuits, shortened, operate, assign, update, in_list_scope, plain, has_label, after_jump, turn, turns, do_turns, copies, at_label, at_break, Case, cases_of, bodies_from, default_bodies, chosen, selected, switch, is_param, handled, resume, finally, try_catch, declare, copied_names, for_loop, shape_if, shape_return, template_text, type_of_name}
use Rattle.pass_proofs.proofs.Runs.{bind_chain}
use Rattle.branch_rules.specs.Jumps.{is_sought, Kinds, in_loop, in_switch}
use Rattle.branch_proofs.proofs.Leaving.{Stays, Keeps}
use Rattle.branch_proofs.proofs.Relabelled.{relabel, Follows, copies_follow, followed, Covered, no_nearer}

pub or_left : (a b : Bool) → (a || b) ≡ false → a ≡ false
or_left true b e = e
or_left false b e = refl

pub or_right : (a b : Bool) → (a || b) ≡ false → b ≡ false
or_right true b e = cc
or_right false b e = e

module _ (g : Kinds) where
  pub stays_then : {A B : Type 0} (o : Outcome A) (k : A → Run B) → Stays g o → ((a : A) → Keeps g (k a)) → Stays g (and_then o k)
  unfolding and_then
  stays_then (Done a s) k h i = (i a).by s
  stays_then (Jumps j s) k h i = h
  stays_then Outside k h i = tt
  stays_then Cut k h i = tt

  pub keeps_then : {A B : Type 0} {m : Run A} {k : A → Run B} → Keeps g m → ((a : A) → Keeps g (k a)) → Keeps g (m >>= k)
  keeps_then {m = m} {k} h i = record { by = λ s. stays_then (m s) k (h.by s) i }

  pub keeps_gives : {A : Type 0} (a : A) → Keeps g (gives a)
  keeps_gives a = record { by = λ s. tt }

  pub keeps_leaves : {A : Type 0} → Keeps {A = A} g leaves
  keeps_leaves = record { by = λ s. tt }

  pub keeps_cut : {A : Type 0} → Keeps {A = A} g (λ s. Cut)
  keeps_cut = record { by = λ s. tt }

  pub keeps_thrown : {A : Type 0} (v : Value) → Keeps {A = A} g (λ s. Jumps (Thrown v) s)
  keeps_thrown v = record { by = λ s. refl }

  pub keeps_returned : {A : Type 0} (v : Value) → Keeps {A = A} g (λ s. Jumps (Returned v) s)
  keeps_returned v = record { by = λ s. refl }

  pub keeps_core : {A : Type 0} (o : Option A) → Keeps g (in_core o)
  keeps_core None = keeps_leaves
  keeps_core (Some a) = keeps_gives a

  pub keeps_if : {A : Type 0} {m k : Run A} (b : Bool) → Keeps g m → Keeps g k → Keeps g (if b then m else k)
  keeps_if true h i = h
  keeps_if false h i = i

  pub keeps_path : {A : Type 0} {m k : Run A} → m ≡ k → Keeps g k → Keeps g m
  keeps_path e h = subst (Keeps g) (sym e) h

  -- the host

  pub stays_if : {A : Type 0} (b : Bool) (o p : Outcome A) → Stays g o → Stays g p → Stays g (if b then o else p)
  stays_if true o p h i = h
  stays_if false o p h i = i

  pub reply_stays : (rs : List Reply) (s : State) → Stays g (take_reply rs s)
  reply_stays [] s = tt
  reply_stays (Gives v ∷ rs) s = stays_if (is_data v) _ _ tt tt
  reply_stays (Throws v ∷ rs) s = stays_if (is_data v) _ _ refl tt
  reply_stays (Back k this args ∷ rs) s = tt

  pub ask_keeps : (e : Event) → Keeps g (ask e)
  unfolding ask
  ask_keeps e = record { by = λ s. reply_stays s.replies _ }

  tell_keeps : (e : Event) → Keeps g (tell e)
  unfolding tell
  tell_keeps e = record { by = λ s. tt }

  mutual
    unfolding hand hand_all hand_fields

    pub hand_keeps : (v : Value) → Keeps g (hand v)
    hand_keeps Undefined = keeps_gives Undefined
    hand_keeps Null = keeps_gives Null
    hand_keeps NaN = keeps_gives NaN
    hand_keeps TypeError = keeps_gives TypeError
    hand_keeps ScriptThis = keeps_leaves
    hand_keeps (Truth b) = keeps_gives (Truth b)
    hand_keeps (Num z) = keeps_gives (Num z)
    hand_keeps (TextValue t) = keeps_gives (TextValue t)
    hand_keeps (Items vs) = keeps_then (hand_all_keeps vs) (λ ws. keeps_gives (Items ws))
    hand_keeps (Record fs) = keeps_then (hand_fields_keeps fs) (λ gs. keeps_gives (Record gs))
    hand_keeps (Function f e t) = record { by = λ s. tt }
    hand_keeps (Token n b) = keeps_gives (Token n b)
    hand_keeps (Own k) = keeps_gives (Own k)

    pub hand_all_keeps : (vs : Values) → Keeps g (hand_all vs)
    hand_all_keeps ∅ = keeps_gives ∅
    hand_all_keeps (v ▹ vs) = keeps_then (hand_keeps v) (λ w. keeps_then (hand_all_keeps vs) (λ ws. keeps_gives (w ▹ ws)))

    hand_fields_keeps : (fs : Fields) → Keeps g (hand_fields fs)
    hand_fields_keeps nofield = keeps_gives nofield
    hand_fields_keeps (field k v fs) = keeps_then (hand_keeps v) (λ w. keeps_then (hand_fields_keeps fs) (λ gs. keeps_gives (field k w gs)))

  -- names

  pub held_keeps : (o : Option Cell) → Keeps g (held_value o)
  held_keeps None = keeps_leaves
  held_keeps (Some c) = keeps_core c.held

  pub bound_keeps : (x : Name) (o : Option ℕ) → Keeps g (read_bound x o)
  bound_keeps x None = keeps_leaves
  bound_keeps x (Some k) = record { by = λ s. (held_keeps (cell_at s x k)).by s }

  pub host_keeps : (x : List ℕ) → Keeps g (read_host x)
  host_keeps x = keeps_if (bytes_eq x (codes "undefined")) (keeps_gives Undefined) (keeps_if (bytes_eq x (codes "NaN")) (keeps_gives NaN) (keeps_if (bytes_eq x (codes "Infinity") || bytes_eq x (codes "arguments")) keeps_leaves (ask_keeps (Reads x))))

  pub read_keeps : (mark : ℕ) (x : Name) (c : Context) → Keeps g (read mark x c)
  unfolding read
  read_keeps mark x c = keeps_if (is_unresolved mark x) (host_keeps x.text) (bound_keeps x (c.env x))

  pub cell_keeps : (x : Name) (k : ℕ) (v : Value) (o : Option Cell) → Keeps g (write_cell x k v o)
  cell_keeps x k v None = keeps_leaves
  cell_keeps x k v (Some c) = keeps_if (c.writable && is_initialised c.held) (record { by = λ s. tt }) keeps_leaves

  pub write_bound_keeps : (x : Name) (v : Value) (o : Option ℕ) → Keeps g (write_bound x v o)
  write_bound_keeps x v None = keeps_leaves
  write_bound_keeps x v (Some k) = record { by = λ s. (cell_keeps x k v (cell_at s x k)).by s }

  pub write_host_keeps : (x : List ℕ) (v : Value) → Keeps g (write_host x v)
  write_host_keeps x v = keeps_if _ keeps_leaves (keeps_then (hand_keeps v) (λ w. keeps_then (ask_keeps _) (λ r. keeps_gives v)))

  pub write_keeps : (mark : ℕ) (x : Name) (v : Value) (c : Context) → Keeps g (write mark x v c)
  unfolding write
  write_keeps mark x v c = keeps_if (is_unresolved mark x) (write_host_keeps x.text v) (write_bound_keeps x v (c.env x))

  pub first_cell_keeps : (x : Name) (k : ℕ) (v : Value) (o : Option Cell) → Keeps g (initialise_cell x k v o)
  first_cell_keeps x k v None = keeps_leaves
  first_cell_keeps x k v (Some c) = record { by = λ s. tt }

  pub first_bound_keeps : (x : Name) (v : Value) (o : Option ℕ) → Keeps g (initialise_bound x v o)
  first_bound_keeps x v None = keeps_leaves
  first_bound_keeps x v (Some k) = record { by = λ s. (first_cell_keeps x k v (cell_at s x k)).by s }

  pub initialise_keeps : (x : Name) (v : Value) (c : Context) → Keeps g (initialise x v c)
  unfolding initialise
  initialise_keeps x v c = first_bound_keeps x v (c.env x)

  pub scope_keeps : {A : Type 0} (binds : Name → Bool) (cells : Env → Scope) (m : Context → Run A) (c : Context) → ((d : Context) → Keeps g (m d)) → Keeps g (in_scope binds cells m c)
  unfolding in_scope
  scope_keeps binds cells m c h = record { by = λ s. (h _).by _ }

  -- members

  member_keeps : (o : Option Natives) (v : Value) (k : List ℕ) → Keeps g (read_member o v k)
  member_keeps None v k = keeps_core (own_property v k)
  member_keeps (Some n) v k = record { by = λ s. (keeps_core (datum (s.natives n k))).by s }

  pub get_keeps : (v : Value) (k : List ℕ) → Keeps g (get v k)
  unfolding get
  get_keeps v k = keeps_if (token_text v) (ask_keeps _) (keeps_if (is_nullish v) (keeps_thrown _) (member_keeps (inherits v k) v k))

  pub put_keeps : (o : Value) (k : List ℕ) (v : Value) → Keeps g (put o k v)
  unfolding put
  put_keeps o k v = keeps_if (token_text o) (keeps_then (hand_keeps v) (λ w. keeps_then (ask_keeps _) (λ r. keeps_gives v))) (keeps_if (is_nullish o) (keeps_thrown _) keeps_leaves)

  pub get_at_keeps : (o k : Value) → Keeps g (get_at o k)
  unfolding get_at
  get_at_keeps o k = keeps_if (is_nullish o) (keeps_thrown _) (keeps_then (keeps_core (to_text k)) (λ t. get_keeps o t))

  pub put_at_keeps : (o k v : Value) → Keeps g (put_at o k v)
  unfolding put_at
  put_at_keeps o k v = keeps_if (is_nullish o) (keeps_thrown _) (keeps_then (keeps_core (to_text k)) (λ t. put_keeps o t v))

  -- calls of what ends by no such jump

  module _ (call : Caller) (kept : (f this : Value) (args : Values) → Keeps g (call f this args)) where
    some_call_keeps : (o : Option Value) (this : Value) (args : Values) → Keeps g (call_some call o this args)
    some_call_keeps None this args = keeps_leaves
    some_call_keeps (Some f) this args = kept f this args

    handed_keeps : (k : ℕ) (this : Value) (args : Values) → Keeps g (call_handed call k this args)
    unfolding call_handed
    handed_keeps k this args = record { by = λ s. (some_call_keeps (slice_get s.handed k) this args).by s }

    told_stays : (o : Outcome Value) → Stays g (told o)
    told_stays (Done v s) = (keeps_then (hand_keeps v) (λ w. tell_keeps (Returns w))).by s
    told_stays (Jumps (Thrown v) s) = (keeps_then (hand_keeps v) (λ w. tell_keeps (Fails w))).by s
    told_stays (Jumps (Broken l) s) = tt
    told_stays (Jumps (Continued l) s) = tt
    told_stays (Jumps (Returned v) s) = tt
    told_stays Outside = tt
    told_stays Cut = tt

    back_keeps : (k : ℕ) (this : Value) (args : Values) → Keeps g (call_back call k this args)
    back_keeps k this args = keeps_if (is_data this && all_data args) (record { by = λ s. told_stays (call_handed call k this args s) }) keeps_leaves

    answer_keeps : {next : Run Value} → Keeps g next → (rs : List Reply) → Keeps g (reply_to_call call next rs)
    answer_keeps h [] = record { by = λ s. reply_stays [] s }
    answer_keeps h (Gives v ∷ rs) = record { by = λ s. reply_stays (Gives v ∷ rs) s }
    answer_keeps h (Throws v ∷ rs) = record { by = λ s. reply_stays (Throws v ∷ rs) s }
    answer_keeps h (Back k this args ∷ rs) = record { by = λ s. stays_then _ _ ((back_keeps k this args).by _) (λ v. h) }

    answers_keep : (n : ℕ) → Keeps g (replies_to_call call n)
    unfolding replies_to_call
    answers_keep zero = keeps_cut
    answers_keep (suc n) = record { by = λ s. (answer_keeps (answers_keep n) s.replies).by s }

    ask_call_keeps : (e : Event) → Keeps g (ask_call call e)
    unfolding ask_call
    ask_call_keeps e = record { by = λ s. (answers_keep (length s.replies)).by _ }

    pub call_keeps : (f this : Value) (args : Values) → Keeps g (call_value call f this args)
    unfolding call_value
    call_keeps (Function f e t) this args = kept (Function f e t) this args
    call_keeps (Token k b) this args = keeps_then (hand_keeps this) (λ t. keeps_then (hand_all_keeps args) (λ vs. ask_call_keeps _))
    call_keeps (Own k) this args = handed_keeps k this args
    call_keeps _ this args = keeps_thrown _

    pub make_keeps : (v : Value) (args : Values) → Keeps g (make_value call v args)
    unfolding make_value
    make_keeps (Token n b) args = keeps_then (hand_all_keeps args) (λ vs. ask_call_keeps _)
    make_keeps (Function f e t) args = keeps_leaves
    make_keeps (Own k) args = keeps_leaves
    make_keeps _ args = keeps_thrown _

  pub this_keeps : (v : Value) → Keeps g (read_this v)
  this_keeps ScriptThis = keeps_leaves
  this_keeps v = keeps_gives v

  -- meanings

  abbrev pub Each : List Meaning → Type 0
  Each [] = Unit {0}
  Each (m ∷ ms) = ((c : Context) → Keeps g (m c)) × Each ms

  pub zero_keeps : {f : Meaning} (ms : List Meaning) → ((c : Context) → Keeps g (f c)) → (c : Context) → Keeps g (shape0 f ms c)
  zero_keeps [] h c = h c
  zero_keeps (m ∷ ms) h c = keeps_leaves

  pub one_keeps : {f : Meaning → Meaning} (ms : List Meaning) → Each ms → ((a : Meaning) → ((c : Context) → Keeps g (a c)) → (c : Context) → Keeps g (f a c)) → (c : Context) → Keeps g (shape1 f ms c)
  one_keeps [] hs h c = keeps_leaves
  one_keeps (a ∷ []) hs h c = h a hs.0 c
  one_keeps (a ∷ b ∷ ms) hs h c = keeps_leaves

  pub two_keep : {f : Meaning → Meaning → Meaning} (ms : List Meaning) → Each ms → ((a b : Meaning) → ((c : Context) → Keeps g (a c)) → ((c : Context) → Keeps g (b c)) → (c : Context) → Keeps g (f a b c)) → (c : Context) → Keeps g (shape2 f ms c)
  two_keep [] hs h c = keeps_leaves
  two_keep (a ∷ []) hs h c = keeps_leaves
  two_keep (a ∷ b ∷ []) hs h c = h a b hs.0 hs.1.0 c
  two_keep (a ∷ b ∷ d ∷ ms) hs h c = keeps_leaves

  pub three_keep : {f : Meaning → Meaning → Meaning → Meaning} (ms : List Meaning) → Each ms → ((a b d : Meaning) → ((c : Context) → Keeps g (a c)) → ((c : Context) → Keeps g (b c)) → ((c : Context) → Keeps g (d c)) → (c : Context) → Keeps g (f a b d c)) → (c : Context) → Keeps g (shape3 f ms c)
  three_keep [] hs h c = keeps_leaves
  three_keep (a ∷ []) hs h c = keeps_leaves
  three_keep (a ∷ b ∷ []) hs h c = keeps_leaves
  three_keep (a ∷ b ∷ d ∷ []) hs h c = h a b d hs.0 hs.1.0 hs.1.1.0 c
  three_keep (a ∷ b ∷ d ∷ e ∷ ms) hs h c = keeps_leaves

  pub some_keep : {f : Meaning → List Meaning → Meaning} (ms : List Meaning) → Each ms → ((a : Meaning) (ks : List Meaning) → ((c : Context) → Keeps g (a c)) → Each ks → (c : Context) → Keeps g (f a ks c)) → (c : Context) → Keeps g (shape1+ f ms c)
  some_keep [] hs h c = keeps_leaves
  some_keep (a ∷ ms) hs h c = h a ms hs.0 hs.1 c

  pub more_keep : {f : Meaning → Meaning → List Meaning → Meaning} (ms : List Meaning) → Each ms → ((a b : Meaning) (ks : List Meaning) → ((c : Context) → Keeps g (a c)) → ((c : Context) → Keeps g (b c)) → Each ks → (c : Context) → Keeps g (f a b ks c)) → (c : Context) → Keeps g (shape2+ f ms c)
  more_keep [] hs h c = keeps_leaves
  more_keep (a ∷ []) hs h c = keeps_leaves
  more_keep (a ∷ b ∷ ms) hs h c = h a b ms hs.0 hs.1.0 hs.1.1 c

  pub values_keep : (ms : List Meaning) → Each ms → (c : Context) → Keeps g (all_values ms c)
  unfolding all_values
  values_keep [] hs c = keeps_gives ∅
  values_keep (m ∷ ms) hs c = keeps_then (hs.0 c) (λ v. keeps_then (values_keep ms hs.1 c) (λ vs. keeps_gives (v ▹ vs)))

  pub turn_keeps : (ms : List Meaning) → Each ms → (c : Context) → Keeps g (in_turn ms c)
  unfolding in_turn
  turn_keeps [] hs c = keeps_gives Undefined
  turn_keeps (m ∷ []) hs c = hs.0 c
  turn_keeps (m ∷ k ∷ ms) hs c = keeps_then (hs.0 c) (λ v. turn_keeps (k ∷ ms) hs.1 c)

  pub all_keep : (ms : List Meaning) → Each ms → (c : Context) → Keeps g (run_all ms c)
  unfolding run_all
  all_keep [] hs c = keeps_gives Undefined
  all_keep (m ∷ ms) hs c = keeps_then (hs.0 c) (λ v. all_keep ms hs.1 c)

  pub spread_keeps : (v : Value) → Keeps g (spread_items v)
  spread_keeps (Items vs) = keeps_gives vs
  spread_keeps _ = keeps_leaves

  pub item_keeps : (k : ItemKind) (v : Value) → Keeps g (item_values k v)
  item_keeps Spread v = spread_keeps v
  item_keeps Plain v = keeps_gives (v ▹ ∅)
  item_keeps Hole v = keeps_gives (v ▹ ∅)

  pub items_keep : (ks : List ItemKind) (ms : List Meaning) → Each ms → (c : Context) → Keeps g (array_items ks ms c)
  unfolding array_items
  items_keep [] [] hs c = keeps_gives ∅
  items_keep [] (m ∷ ms) hs c = keeps_leaves
  items_keep (Hole ∷ ks) ms hs c = keeps_leaves
  items_keep (k ∷ ks) [] hs c = keeps_leaves
  items_keep (k ∷ ks) (m ∷ ms) hs c = keeps_then (hs.0 c) (λ v. keeps_then (item_keeps k v) (λ vs. keeps_then (items_keep ks ms hs.1 c) (λ ws. keeps_gives _)))

  pub merged_keeps : (fs : Fields) (v : Value) → Keeps g (merged fs v)
  merged_keeps fs (Record gs) = keeps_gives _
  merged_keeps fs _ = keeps_leaves

  pub fields_keep : (ms : List Meaning) (fs : Fields) → Each ms → (c : Context) → Keeps g (object_fields ms fs c)
  unfolding object_fields
  fields_keep [] fs hs c = keeps_gives fs
  fields_keep (m ∷ ms) fs hs c = keeps_then (hs.0 c) (λ v. keeps_then (merged_keeps fs v) (λ gs. fields_keep ms gs hs.1 c))

  pub field_keeps : (k : List ℕ) (v : Value) → Keeps g (one_field k v)
  field_keeps k v = keeps_if (bytes_eq k (codes "__proto__")) keeps_leaves (keeps_gives _)

  pub template_keeps : (qs : List (Text × Bool)) (ms : List Meaning) → Each ms → (c : Context) → Keeps g (template_text qs ms c)
  unfolding template_text
  template_keeps [] ms hs c = keeps_leaves
  template_keeps (q ∷ []) [] hs c = keeps_gives q.0
  template_keeps (q ∷ r ∷ qs) [] hs c = keeps_leaves
  template_keeps (q ∷ qs) (m ∷ ms) hs c = keeps_then (hs.0 c) (λ v. keeps_then (keeps_core (to_text v)) (λ t. keeps_then (template_keeps qs ms hs.1 c) (λ rest. keeps_gives (q.0 ++ t ++ rest))))

  pub short_keeps : {m k h : Run Value} (o : Option Bool) → Keeps g m → Keeps g k → Keeps g h → Keeps g (shortened o m k h)
  short_keeps None a b d = d
  short_keeps (Some true) a b d = a
  short_keeps (Some false) a b d = b

  pub operate_keeps : (op : BinaryOp) (v : Value) (right : Run Value) → Keeps g right → Keeps g (operate op v right)
  unfolding operate
  operate_keeps op v right h = short_keeps (short_circuits op v) (keeps_gives v) h (keeps_then h (λ b. keeps_core _))

  pub assign_keeps : (o : Option BinaryOp) (old right : Run Value) (store : Value → Run Value) → Keeps g old → Keeps g right → ((v : Value) → Keeps g (store v)) → Keeps g (assign o old right store)
  unfolding assign
  assign_keeps None old right store h i k = keeps_then i k
  assign_keeps (Some op) old right store h i k = keeps_then h (λ a. short_keeps (short_circuits op a) (keeps_gives a) (keeps_then i k) (keeps_then i (λ b. keeps_then (keeps_core _) k)))

  pub update_keeps : (op : UpdateOp) (prefix : Bool) (old : Run Value) (store : Value → Run Value) → Keeps g old → ((v : Value) → Keeps g (store v)) → Keeps g (update op prefix old store)
  unfolding update
  update_keeps op prefix old store h k = keeps_then h (λ a. keeps_then (keeps_core (to_number a)) (λ m. keeps_then (keeps_core _) (λ new. keeps_then (k new) (λ r. keeps_gives _))))

  pub checked_keeps : (v : Value) → Keeps g (checked_type v)
  checked_keeps v = keeps_if (is_type_name v) (keeps_gives v) keeps_leaves

  pub type_keeps : (mark : ℕ) (x : Name) (c : Context) → Keeps g (type_of_name mark x c)
  unfolding type_of_name
  type_keeps mark x c = keeps_if _ (keeps_then (ask_keeps _) checked_keeps) (keeps_then (read_keeps mark x c) (λ v. keeps_core _))

  -- statements

  pub label_stays : (b : Bool) (m : List ℕ) (s : State) → Stays {A = Value} g (if b then Done Undefined s else Jumps (Broken (Some m)) s)
  label_stays true m s = tt
  label_stays false m s = refl

  pub at_label_stays : (l : List ℕ) (o : Outcome Value) → Stays g o → Stays g (at_label l o)
  unfolding at_label
  at_label_stays l (Done v s) h = tt
  at_label_stays l (Jumps (Broken (Some m)) s) h = label_stays (bytes_eq l m) m s
  at_label_stays l (Jumps (Broken None) s) h = h
  at_label_stays l (Jumps (Continued m) s) h = h
  at_label_stays l (Jumps (Returned v) s) h = h
  at_label_stays l (Jumps (Thrown v) s) h = h
  at_label_stays l Outside h = tt
  at_label_stays l Cut h = tt

  pub at_break_stays : (o : Outcome Value) → Stays (in_switch g) o → Stays g (at_break o)
  unfolding at_break
  at_break_stays (Done v s) h = tt
  at_break_stays (Jumps (Broken None) s) h = tt
  at_break_stays (Jumps (Broken (Some m)) s) h = refl
  at_break_stays (Jumps (Continued None) s) h = h
  at_break_stays (Jumps (Continued (Some m)) s) h = h
  at_break_stays (Jumps (Returned v) s) h = refl
  at_break_stays (Jumps (Thrown v) s) h = refl
  at_break_stays Outside h = tt
  at_break_stays Cut h = tt

  pub aimed_stays : (b : Bool) (l : List ℕ) (s : State) → (b ≡ false → (is_sought g.labelled l && not (has_label l g.inside)) ≡ false) → Stays g (after_jump (if b then Some true else None) (Continued (Some l)) s)
  aimed_stays true l s h = tt
  aimed_stays false l s h = h refl

  pub turn_stays : (near : List Text) (labels : List (List ℕ)) → Covered near g.inside labels → (o : Outcome Value) → Stays (in_loop near g) o → Stays g (turn labels o)
  unfolding turn
  turn_stays near labels k (Done v s) h = tt
  turn_stays near labels k (Jumps (Broken None) s) h = tt
  turn_stays near labels k (Jumps (Broken (Some l)) s) h = refl
  turn_stays near labels k (Jumps (Continued None) s) h = tt
  turn_stays near labels k (Jumps (Continued (Some l)) s) h = aimed_stays (has_label l labels) l s (no_nearer (is_sought g.labelled l) (has_label l labels) (has_label l near) (has_label l g.inside) (k.by l) h)
  turn_stays near labels k (Jumps (Returned v) s) h = refl
  turn_stays near labels k (Jumps (Thrown v) s) h = refl
  turn_stays near labels k Outside h = tt
  turn_stays near labels k Cut h = tt

  pub resume_stays : (o p : Outcome Value) → Stays g o → Stays g p → Stays g (resume o p)
  resume_stays (Done v s) (Done w t) h i = tt
  resume_stays (Jumps j s) (Done w t) h i = h
  resume_stays Outside (Done w t) h i = tt
  resume_stays Cut (Done w t) h i = tt
  resume_stays o (Jumps k t) h i = i
  resume_stays o Outside h i = tt
  resume_stays o Cut h i = tt

  pub finally_stays : (m : Meaning) (c : Context) (o : Outcome Value) → Stays g o → ((d : Context) → Keeps g (m d)) → Stays g (finally m c o)
  finally_stays m c (Done v s) h i = resume_stays (Done v s) (m c s) h ((i c).by s)
  finally_stays m c (Jumps j s) h i = resume_stays (Jumps j s) (m c s) h ((i c).by s)
  finally_stays m c Outside h i = tt
  finally_stays m c Cut h i = tt

  pub handled_stays : (p : Option (Option Name)) (m : Meaning) (c : Context) (o : Outcome Value) → Stays g o → ((d : Context) → Keeps g (m d)) → Stays g (handled p m c o)
  handled_stays None m c o h i = h
  handled_stays (Some q) m c (Jumps (Thrown v) s) h i = (scope_keeps (is_param q) _ m c i).by s
  handled_stays (Some q) m c (Jumps (Broken l) s) h i = h
  handled_stays (Some q) m c (Jumps (Continued l) s) h i = h
  handled_stays (Some q) m c (Jumps (Returned v) s) h i = h
  handled_stays (Some q) m c (Done v s) h i = tt
  handled_stays (Some q) m c Outside h i = tt
  handled_stays (Some q) m c Cut h i = tt

  pub try_keeps : (p : Option (Option Name)) (b h f : Meaning) → ((d : Context) → Keeps g (b d)) → ((d : Context) → Keeps g (h d)) → ((d : Context) → Keeps g (f d)) → (c : Context) → Keeps g (try_catch p b h f c)
  unfolding try_catch
  try_keeps p b h f hb hh hf c = record { by = λ s. finally_stays f c _ (handled_stays p h c _ ((hb c).by s) hh) hf }

  pub declare_keeps : (kind : VarDeclKind) (x : Name) (ms : List Meaning) → Each ms → (c : Context) → Keeps g (declare kind x ms c)
  unfolding declare
  declare_keeps Var x [] hs c = keeps_gives Undefined
  declare_keeps Let x [] hs c = initialise_keeps x Undefined c
  declare_keeps Const x [] hs c = initialise_keeps x Undefined c
  declare_keeps kind x (m ∷ ms) hs c = keeps_then (hs.0 c) (λ v. initialise_keeps x v c)

  pub if_keeps : (ms : List Meaning) → Each ms → (c : Context) → Keeps g (shape_if ms c)
  if_keeps [] hs c = keeps_leaves
  if_keeps (t ∷ []) hs c = keeps_leaves
  if_keeps (t ∷ a ∷ []) hs c = keeps_then (hs.0 c) (λ v. keeps_if (truthy v) (hs.1.0 c) (keeps_gives Undefined))
  if_keeps (t ∷ a ∷ b ∷ []) hs c = keeps_then (hs.0 c) (λ v. keeps_if (truthy v) (hs.1.0 c) (hs.1.1.0 c))
  if_keeps (t ∷ a ∷ b ∷ d ∷ ms) hs c = keeps_leaves

  pub return_keeps : (ms : List Meaning) → Each ms → (c : Context) → Keeps g (shape_return ms c)
  return_keeps [] hs c = keeps_returned Undefined
  return_keeps (m ∷ []) hs c = keeps_then (hs.0 c) (λ v. keeps_returned v)
  return_keeps (m ∷ k ∷ ms) hs c = keeps_leaves

  pub list_scope_keeps : (ts : Forest) (m : Meaning) → ((d : Context) → Keeps g (m d)) → (c : Context) → Keeps g (in_list_scope ts m c)
  unfolding in_list_scope
  list_scope_keeps ts m h c = scope_keeps _ _ m c h

  pub copies_keep : (names : List Declared) (c : Context) → Keeps g (copies names c)
  unfolding copies in_scope
  copies_keep names c = record { by = λ s. tt }

  pub turns_keep : (near : List Text) (n : ℕ) (t b u : Meaning) (next : Context → Run Context) → ((c : Context) → Keeps g (t c)) → ((c : Context) → Keeps (in_loop near g) (b c)) → ((c : Context) → Keeps g (next c)) → Follows next → ((c : Context) → Keeps g (u c)) → (ls : List (List ℕ)) → Covered near g.inside ls → (c : Context) → Keeps g (turns n t b next u (relabel ls c))
  unfolding turns
  turns_keep near zero t b u next ht hb hn hf hu ls k c = keeps_then (ht (plain c)) (λ v. keeps_if (truthy v) keeps_cut (keeps_gives Undefined))
  turns_keep near (suc n) t b u next ht hb hn hf hu ls k c =
      keeps_then (ht (plain c)) (λ v. keeps_if (truthy v)
      (keeps_then (record { by = λ s. turn_stays near ls k (b (plain c) s) ((hb (plain c)).by s) }) (λ goes_on. keeps_if goes_on
      (keeps_path (followed next hf ls c (λ d. u (plain d) >>= λ w. turns n t b next u d)) (keeps_then (hn c) (λ d. keeps_then (hu (plain d)) (λ w. turns_keep near n t b u next ht hb hn hf hu ls k d))))
      (keeps_gives Undefined)))
      (keeps_gives Undefined))

  pub do_turns_keep : (near : List Text) (n : ℕ) (b t : Meaning) → ((c : Context) → Keeps (in_loop near g) (b c)) → ((c : Context) → Keeps g (t c)) → (c : Context) → Covered near g.inside c.labels → Keeps g (do_turns n b t c)
  unfolding do_turns
  do_turns_keep near zero b t hb ht c k = keeps_cut
  do_turns_keep near (suc n) b t hb ht c k =
      keeps_then (record { by = λ s. turn_stays near c.labels k (b (plain c) s) ((hb (plain c)).by s) }) (λ goes_on. keeps_if goes_on
      (keeps_then (ht (plain c)) (λ v. keeps_if (truthy v) (do_turns_keep near n b t hb ht c k) (keeps_gives Undefined)))
      (keeps_gives Undefined))

  -- a scope whose body runs under the labels that stand there
  env_keeps : {A : Type 0} (binds : Name → Bool) (cells : Env → Scope) (m : Context → Run A) (c : Context) → ((e : Env) → Keeps g (m (record c { env = e }))) → Keeps g (in_scope binds cells m c)
  unfolding in_scope
  env_keeps binds cells m c h = record { by = λ s. (h (numbered binds c.env s)).by _ }

  pub for_keeps : (near : List Text) (n : ℕ) (head : Tree) (i t u b : Meaning) → ((c : Context) → Keeps g (i c)) → ((c : Context) → Keeps g (t c)) → ((c : Context) → Keeps g (u c)) → ((c : Context) → Keeps (in_loop near g) (b c)) → (c : Context) → Covered near g.inside c.labels → Keeps g (for_loop n head i t u b c)
  unfolding for_loop
  for_keeps near n head i t u b hi ht hu hb c k = env_keeps _ _ _ c (λ e. keeps_then (hi (plain (record c { env = e }))) (λ v.
      keeps_path (followed (copies (copied_names head)) (copies_follow (copied_names head)) c.labels (record c { env = e }) (λ d. turns n t b (copies (copied_names head)) u d))
      (keeps_then (copies_keep (copied_names head) (record c { env = e })) (λ d. turns_keep near n t b u (copies (copied_names head)) ht hb (copies_keep (copied_names head)) (copies_follow (copied_names head)) hu c.labels k d))))

  -- a switch: the bodies that are run are among those of the cases
  abbrev EachCase : List Case → Type 0
  EachCase [] = Unit {0}
  EachCase ((None, m) ∷ ks) = ((c : Context) → Keeps g (m c)) × EachCase ks
  EachCase ((Some t, m) ∷ ks) = ((c : Context) → Keeps g (t c)) × ((c : Context) → Keeps g (m c)) × EachCase ks

  pub cases_keep : (ds : List Bool) (ms : List Meaning) → Each ms → EachCase (cases_of ds ms)
  cases_keep [] ms hs = tt
  cases_keep (d ∷ ds) [] hs = tt
  cases_keep (d ∷ ds) (m ∷ []) hs = tt
  cases_keep (true ∷ ds) (m ∷ k ∷ ms) hs = (hs.1.0, cases_keep ds ms hs.1.1)
  cases_keep (false ∷ ds) (m ∷ k ∷ ms) hs = (hs.0, hs.1.0, cases_keep ds ms hs.1.1)

  pub bodies_keep : (ks : List Case) → EachCase ks → Each (bodies_from ks)
  bodies_keep [] hs = tt
  bodies_keep ((None, m) ∷ ks) hs = (hs.0, bodies_keep ks hs.1)
  bodies_keep ((Some t, m) ∷ ks) hs = (hs.1, bodies_keep ks hs.2)

  pub default_keep : (ks : List Case) → EachCase ks → Each (default_bodies ks)
  default_keep [] hs = tt
  default_keep ((None, m) ∷ ks) hs = (hs.0, bodies_keep ks hs.1)
  default_keep ((Some t, m) ∷ ks) hs = default_keep ks hs.2

  pub chosen_keeps : (b : Bool) (ms : List Meaning) (rest : Run (List Meaning)) (f : List Meaning → Run Value) → Keeps g (f ms) → Keeps g (rest >>= f) → Keeps g (chosen b ms rest >>= f)
  unfolding and_then
  chosen_keeps true ms rest f h i = h
  chosen_keeps false ms rest f h i = i

  pub selected_keeps : (ks : List Case) (others : List Meaning) (v : Value) (c : Context) (f : List Meaning → Run Value) → EachCase ks → Each others → ((ms : List Meaning) → Each ms → Keeps g (f ms)) → Keeps g (selected ks others v c >>= f)
  unfolding selected and_then
  selected_keeps [] others v c f hs ho hf = hf others ho
  selected_keeps ((None, m) ∷ ks) others v c f hs ho hf = selected_keeps ks others v c f hs.1 ho hf
  selected_keeps ((Some t, m) ∷ ks) others v c f hs ho hf =
      keeps_path (bind_chain (t c) (λ w. in_core (strict_equal (prim v) (prim w)) >>= λ same. chosen same (m ∷ bodies_from ks) (selected ks others v c)) f)
      (keeps_then (hs.0 c) (λ w. keeps_path (bind_chain (in_core (strict_equal (prim v) (prim w))) (λ same. chosen same (m ∷ bodies_from ks) (selected ks others v c)) f)
      (keeps_then (keeps_core (strict_equal (prim v) (prim w))) (λ same. chosen_keeps same (m ∷ bodies_from ks) (selected ks others v c) f (hf (m ∷ bodies_from ks) (hs.1, bodies_keep ks hs.2)) (selected_keeps ks others v c f hs.2 ho hf)))))

-- a switch keeps the jumps of its cases, but for those that are aimed at it
pub switch_keeps : (g : Kinds) (ts : Forest) (ds : List Bool) (ms : List Meaning) (m : Meaning) → ((c : Context) → Keeps g (m c)) → Each (in_switch g) ms → (c : Context) → Keeps g (switch ts (cases_of ds ms) m c)
unfolding switch
switch_keeps g ts ds ms m hm hs c =
    keeps_then g (hm c) (λ v. list_scope_keeps g (case_statements ts) _ (λ d. record {
      by = λ s. at_break_stays g _ ((selected_keeps (in_switch g) (cases_of ds ms) (default_bodies (cases_of ds ms)) v d (λ bodies. run_all bodies d) (cases_keep (in_switch g) ds ms hs) (default_keep (in_switch g) (cases_of ds ms) (cases_keep (in_switch g) ds ms hs)) (λ bodies hb. all_keep (in_switch g) bodies hb d)).by s);
    }) c)
