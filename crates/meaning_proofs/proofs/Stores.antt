-- Cells, scopes, the host and calls: each takes related states to related outcomes.
use Rattle.std.proofs.Common.{◌≡◌, ℕ, zero, suc, Bool, true, false, List, [], ◌∷◌, ◌++◌, Option, Some, None, refl, sym, ap, ap₂, subst, length, slice_get, slice_set, cond, if◌then◌else◌, ◌∙◌, ◌&&◌}
use Rattle.std.proofs.lemmas.Bool.{false≢true}
use Rattle.swc_ast.specs.Tree.{Name, same_name}
use Rattle.swc_ast.specs.Value.{Value, Items, Record, Own, Values, ◌▹◌, Fields, field, is_data, Event, Reads, Writes, Reply, Gives, Throws, Back, Cell, State, Thrown, Outcome, Done, Jumps, Outside, Cut, Context}
use Rattle.meaning_proofs.specs.Sameness.{is_ignored, counting}
use Rattle.swc_ast.specs.Meaning.{◌>>=◌, gives, leaves, take_reply, ask, tell, hand_function, hand, hand_all, hand_fields, is_unresolved, cell_at, set_cell, held_value, read_bound, read_host, read, write_cell, write_bound, write_host, write, is_initialised, initialise_cell, initialise_bound, initialise, in_core}
use Rattle.meaning_proofs.specs.Names.{Names, Holds, empty, full, Guarded, no_cell, a_cell, Seen, shown, gone, Settable, may_set, never, Firm, not_loose, not_slack}
use Rattle.meaning_proofs.proofs.Relation.{Pairing, Each, none, more, Maybe, neither, both, V, Vs, Fs, undefined, null, nan, type_error, script_this, truth, num, text, items, entries, function, token, own, no_value, value, no_entry, entry, Held, same_held, any_held, SameCell, alike, unlike, S, C, thrown, Sim, done, jump, outside, cut, Ran}
use Rattle.meaning_proofs.proofs.Names.{same_name_eq}
use Rattle.meaning_proofs.proofs.Combine.{Eq, gives_sim, leaves_sim, if_sim, in_core_sim, bind}
use Rattle.meaning_proofs.proofs.Data.{data_same}

module _ {A : Type 0} {RA : A → A → Type 0} where
  pub get_each : {xs ys : List A} → Each RA xs ys → (k : ℕ) → Maybe RA (slice_get xs k) (slice_get ys k)
  get_each none k = neither
  get_each (more r rs) zero = both r
  get_each (more r rs) (suc k) = get_each rs k

  pub set_each : {xs ys : List A} → Each RA xs ys → (k : ℕ) {a b : A} → RA a b → Each RA (slice_set xs k a) (slice_set ys k b)
  set_each none k q = none
  set_each (more r rs) zero q = more q rs
  set_each (more r rs) (suc k) q = more r (set_each rs k q)

  pub length_each : {xs ys : List A} → Each RA xs ys → length xs ≡ length ys
  length_each none = refl
  length_each (more r rs) = ap suc (length_each rs)

  pub append_each : {xs ys us vs : List A} → Each RA xs ys → Each RA us vs → Each RA (xs ++ us) (ys ++ vs)
  append_each none q = q
  append_each (more r rs) q = more r (append_each rs q)

  pub cond_each : (b : Bool) {xs ys us vs : List A} → Each RA xs us → Each RA ys vs → Each RA (cond b xs ys) (cond b us vs)
  cond_each true p q = p
  cond_each false p q = q

pub seen_of : {N : Names} {mark : ℕ} {x : Name} → Settable N mark x → Seen N mark x
seen_of (may_set k l f) = shown k l
seen_of (never g e u) = gone g e u

and_false : (b : Bool) → (b && false) ≡ false
and_false true = refl
and_false false = refl

-- a value that a name may take
pub data Puts (N : Names) (x : Name) (v : Value) : Type 0 where
  free : N.guarded x ≡ false → Puts N x v
  fits : N.guard x ≡ Some v → Puts N x v

write_unset : (x : Name) (k : ℕ) (v : Value) (c : Cell) (s : State) → c.held ≡ None → write_cell x k v (Some c) s ≡ Outside
write_unset x k v c s e = ap (λ (b : Bool). (if b then (λ s. Done v (set_cell s x k (record c { held = Some v }))) else leaves) s) (ap (λ (o : Option Value). c.writable && is_initialised o) e ∙ and_false c.writable)

-- a name that never holds anything: a run that reads or writes it leaves the core
nothing_held : {g : Option Value} {c : Cell} → g ≡ None → Holds g c → c.held ≡ None
nothing_held e (empty q) = q
nothing_held e (full q) = q ∙ e

unset_cell : {g : Option Value} {cs : List Cell} → g ≡ None → Guarded g cs → (k : ℕ) (s : State) → held_value (slice_get cs k) s ≡ Outside
unset_cell e no_cell k s = refl
unset_cell e (a_cell h hs) zero s = ap (λ (o : Option Value). in_core o s) (nothing_held e h)
unset_cell e (a_cell h hs) (suc k) s = unset_cell e hs k s

pub dead_bound : (x : Name) (o : Option ℕ) (s : State) {g : Option Value} → g ≡ None → Guarded g (s.store x) → read_bound x o s ≡ Outside
dead_bound x None s e h = refl
dead_bound x (Some k) s e h = unset_cell e h k s

-- the name is no host's
pub bound_read : (mark : ℕ) (x : Name) (c : Context) (s : State) → is_unresolved mark x ≡ false → read mark x c s ≡ read_bound x (c.env x) s
unfolding read
bound_read mark x c s e = ap (λ (b : Bool). (if b then read_host x.text else read_bound x (c.env x)) s) e

unset_write : (x : Name) (j : ℕ) (v : Value) {g : Option Value} {cs : List Cell} → g ≡ None → Guarded g cs → (k : ℕ) (s : State) → write_cell x j v (slice_get cs k) s ≡ Outside
unset_write x j v e no_cell k s = refl
unset_write x j v e (a_cell {c} h hs) zero s = write_unset x j v c s (nothing_held e h)
unset_write x j v e (a_cell h hs) (suc k) s = unset_write x j v e hs k s

dead_write_bound : (x : Name) (v : Value) (o : Option ℕ) (s : State) {g : Option Value} → g ≡ None → Guarded g (s.store x) → write_bound x v o s ≡ Outside
dead_write_bound x v None s e h = refl
dead_write_bound x v (Some k) s e h = unset_write x k v e h k s

dead_write : (mark : ℕ) (x : Name) (v : Value) (c : Context) (s : State) → is_unresolved mark x ≡ false → {g : Option Value} → g ≡ None → Guarded g (s.store x) → write mark x v c s ≡ Outside
unfolding write
dead_write mark x v c s u e h = ap (λ (b : Bool). (if b then write_host x.text v else write_bound x v (c.env x)) s) u ∙ dead_write_bound x v (c.env x) s e h

-- what is known of cells stays known
pub set_guarded : {g : Option Value} {cs : List Cell} → Guarded g cs → (k : ℕ) {c : Cell} → Holds g c → Guarded g (slice_set cs k c)
set_guarded no_cell k q = no_cell
set_guarded (a_cell h hs) zero q = a_cell q hs
set_guarded (a_cell h hs) (suc k) q = a_cell h (set_guarded hs k q)

pub guard_set : (N : Names) (s : State) (x y : Name) (k : ℕ) (c : Cell) (v : Value) → Puts N x v → N.guarded y ≡ true → Guarded (N.guard y) (s.store y) → Guarded (N.guard y) ((set_cell s x k (record c { held = Some v })).store y)
guard_set N s x y k c v q g h = go (same_name x y) refl
  where
    fitting : x ≡ y → Puts N x v → Holds (N.guard y) (record c { held = Some v })
    fitting p (free f) = absurd (false≢true (sym f ∙ ap N.guarded p ∙ g))
    fitting p (fits e) = full (sym e ∙ ap N.guard p)

    go : (b : Bool) → same_name x y ≡ b → Guarded (N.guard y) (cond b (slice_set (s.store y) k (record c { held = Some v })) (s.store y))
    go false e = h
    go true e = set_guarded h k (fitting (same_name_eq x y e) q)

-- the events that count of one list behind another
if_append : (b : Bool) (e : Event) (es fs : List Event) → cond b (es ++ fs) (e ∷ es ++ fs) ≡ cond b es (e ∷ es) ++ fs
if_append true e es fs = refl
if_append false e es fs = refl

counting_append : (ignores : List ℕ → Bool) (es fs : List Event) → counting ignores (es ++ fs) ≡ counting ignores es ++ counting ignores fs
counting_append ignores [] fs = refl
counting_append ignores (e ∷ es) fs = ap (λ (gs : List Event). cond (is_ignored ignores e) gs (e ∷ gs)) (counting_append ignores es fs) ∙ if_append (is_ignored ignores e) e (counting ignores es) (counting ignores fs)

counting_same : (ignores : List ℕ → Bool) (es fs gs : List Event) → counting ignores es ≡ counting ignores fs → counting ignores (es ++ gs) ≡ counting ignores (fs ++ gs)
counting_same ignores es fs gs e = counting_append ignores es gs ∙ ap (λ es. es ++ counting ignores gs) e ∙ sym (counting_append ignores fs gs)

-- the cells of a name are alike
firm_cell : (N : Names) (x : Name) → Firm N x → N.loose x ≡ true → N.slack x ≡ true → ⊥
firm_cell N x (not_loose l) e f = false≢true (sym l ∙ e)
firm_cell N x (not_slack l) e f = false≢true (sym l ∙ f)

module _ {P : Pairing} where
  -- the host

  pub with_replies : {s t : State} (rs : List Reply) → S P s t → S P (record s { replies = rs }) (record t { replies = rs })
  with_replies rs h = record { events = h.events; replies = refl; handed = h.handed; natives = h.natives; cells = h.cells; guards = record { at = h.guards.at } }

  take_gives : (v : Value) (b : Bool) {s t : State} → is_data v ≡ b → S P s t → Sim P (V P) (if b then Done v s else Outside) (if b then Done v t else Outside)
  take_gives v true e h = done (data_same v e) h
  take_gives v false e h = outside Outside

  take_throws : (v : Value) (b : Bool) {s t : State} → is_data v ≡ b → S P s t → Sim P (V P) (if b then Jumps (Thrown v) s else Outside) (if b then Jumps (Thrown v) t else Outside)
  take_throws v true e h = jump (thrown (data_same v e)) h
  take_throws v false e h = outside Outside

  pub take_sim : (rs : List Reply) {s t : State} → S P s t → Sim P (V P) (take_reply rs s) (take_reply rs t)
  take_sim [] h = cut Cut
  take_sim (Gives v ∷ rs) h = take_gives v (is_data v) refl (with_replies rs h)
  take_sim (Throws v ∷ rs) h = take_throws v (is_data v) refl (with_replies rs h)
  take_sim (Back k this args ∷ rs) h = outside Outside

  pub asked : (e : Event) {s t : State} → S P s t → S P (record s { events = s.events ++ e ∷ [] }) (record t { events = t.events ++ e ∷ [] })
  asked e {s} {t} h = record { events = counting_same P.ignores s.events t.events (e ∷ []) h.events; replies = h.replies; handed = h.handed; natives = h.natives; cells = h.cells; guards = record { at = h.guards.at } }

  pub ask_sim : (e : Event) → Ran P (V P) (ask e) (ask e)
  unfolding ask
  ask_sim e s t h =
      subst (λ rs. Sim P (V P) (take_reply s.replies (record s { events = s.events ++ e ∷ [] })) (take_reply rs (record t { events = t.events ++ e ∷ [] }))) h.replies (take_sim s.replies (asked e h))

  pub ask_same : {e f : Event} → e ≡ f → Ran P (V P) (ask e) (ask f)
  ask_same {e} p = subst (λ f. Ran P (V P) (ask e) (ask f)) p (ask_sim e)

  pub tell_same : {e f : Event} → e ≡ f → Ran P (V P) (tell e) (tell f)
  unfolding tell
  tell_same {e} p = subst (λ f. Ran P (V P) (tell e) (tell f)) p (λ s t h. done undefined (asked e h))

  -- what is handed to the host is equal, and the functions in it are related

  handed_more : {v w : Value} {s t : State} → V P v w → S P s t → S P (record s { handed = s.handed ++ v ∷ [] }) (record t { handed = t.handed ++ w ∷ [] })
  handed_more r h = record { events = h.events; replies = h.replies; handed = append_each h.handed (more r none); natives = h.natives; cells = h.cells; guards = record { at = h.guards.at } }

  hand_function_sim : {v w : Value} → V P v w → Ran P Eq (hand_function v) (hand_function w)
  hand_function_sim r s t h = done (ap Own (length_each h.handed)) (handed_more r h)

  mutual
    unfolding hand hand_all hand_fields

    pub hand_sim : {v w : Value} → V P v w → Ran P Eq (hand v) (hand w)
    hand_sim undefined = gives_sim refl
    hand_sim null = gives_sim refl
    hand_sim nan = gives_sim refl
    hand_sim type_error = gives_sim refl
    hand_sim script_this = leaves_sim leaves
    hand_sim (truth b) = gives_sim refl
    hand_sim (num z) = gives_sim refl
    hand_sim (text t) = gives_sim refl
    hand_sim (items rs) = bind (hand_all_sim rs) (λ vs ws e. gives_sim (ap Items e))
    hand_sim (entries rs) = bind (hand_fields_sim rs) (λ fs gs e. gives_sim (ap Record e))
    hand_sim (function k e r) = hand_function_sim (function k e r)
    hand_sim (token n b) = gives_sim refl
    hand_sim (own k) = gives_sim refl

    pub hand_all_sim : {vs ws : Values} → Vs P vs ws → Ran P Eq (hand_all vs) (hand_all ws)
    hand_all_sim no_value = gives_sim refl
    hand_all_sim (value r rs) = bind (hand_sim r) (λ v w e. bind (hand_all_sim rs) (λ vs ws d. gives_sim (ap₂ ◌▹◌ e d)))

    hand_fields_sim : {fs gs : Fields} → Fs P fs gs → Ran P Eq (hand_fields fs) (hand_fields gs)
    hand_fields_sim no_entry = gives_sim refl
    hand_fields_sim (entry k r rs) = bind (hand_sim r) (λ v w e. bind (hand_fields_sim rs) (λ fs gs d. gives_sim (ap₂ (field k) e d)))

  -- cells

  pub cell_sim : {s t : State} → S P s t → (x : Name) → P.dropped x ≡ false → (k : ℕ) → Maybe (SameCell P x) (cell_at s x k) (cell_at t x k)
  cell_sim h x kept k = get_each (h.cells x kept) k

  renewed : {x : Name} {c d : Cell} {v w : Value} → SameCell P x c d → V P v w → SameCell P x (record c { held = Some v }) (record d { held = Some w })
  renewed (alike e h) r = alike e (both (same_held r))
  renewed (unlike e f) r = unlike e f

  set_cells : (x y : Name) (k : ℕ) (b : Bool) → same_name x y ≡ b → {c d : Cell} {cs ds : List Cell} → SameCell P x c d → Each (SameCell P y) cs ds → Each (SameCell P y) (cond b (slice_set cs k c) cs) (cond b (slice_set ds k d) ds)
  set_cells x y k true e {c} {d} u h = set_each h k (subst (λ z. SameCell P z c d) (same_name_eq x y e) u)
  set_cells x y k false e u h = h

  pub set_held_sim : {s t : State} → S P s t → (x : Name) → P.dropped x ≡ false → (k : ℕ) {c d : Cell} {v w : Value} → Puts P.names x v → SameCell P x c d → V P v w → S P (set_cell s x k (record c { held = Some v })) (set_cell t x k (record d { held = Some w }))
  set_held_sim {s} h x keeps k {c} {v = v} q u r = record {
    events = h.events;
    replies = h.replies;
    handed = h.handed;
    natives = h.natives;
    cells = λ y kept. set_cells x y k (same_name x y) refl (renewed u r) (h.cells y kept);
    guards = record { at = λ y g. guard_set P.names s x y k c v q g (h.guards.at y g) };
  }

  held_value_sim : {x : Name} → P.loose x ≡ false → {o p : Option Value} → Maybe (Held P x) o p → Maybe (V P) o p
  held_value_sim l neither = neither
  held_value_sim l (both (same_held r)) = both r
  held_value_sim l (both (any_held e)) = absurd (false≢true (sym l ∙ e))

  held_sim : {x : Name} → P.loose x ≡ false → {o p : Option Cell} → Maybe (SameCell P x) o p → Ran P (V P) (held_value o) (held_value p)
  held_sim l neither = leaves_sim leaves
  held_sim l (both (alike w r)) = in_core_sim (held_value_sim l r)
  held_sim l (both (unlike e f)) = absurd (false≢true (sym l ∙ e))

  pub read_bound_sim : (x : Name) (o : Option ℕ) → P.dropped x ≡ false → P.loose x ≡ false → Ran P (V P) (read_bound x o) (read_bound x o)
  read_bound_sim x None kept l = leaves_sim leaves
  read_bound_sim x (Some k) kept l = λ s t h. held_sim l (cell_sim h x kept k) s t h

  read_host_sim : (x : List ℕ) → Ran P (V P) (read_host x) (read_host x)
  read_host_sim x = if_sim refl (gives_sim undefined) (if_sim refl (gives_sim nan) (if_sim refl (leaves_sim leaves) (ask_sim (Reads x))))

  pub from_outside : {A : Type 0} {RA : A → A → Type 0} {o : Outcome A} (p : Outcome A) → o ≡ Outside → Sim P RA o p
  from_outside {RA = RA} p e = subst (λ o. Sim P RA o p) (sym e) (outside p)

  pub read_sim : (mark : ℕ) (x : Name) → Seen P.names mark x → {c d : Context} → C P c d → Ran P (V P) (read mark x c) (read mark x d)
  unfolding read
  read_sim mark x (gone g e u) {c} {d} hc = λ s t h. from_outside _ (bound_read mark x c s u ∙ dead_bound x (c.env x) s e (h.guards.at x g))
  read_sim mark x (shown kept l) {c} {d} hc =
      if_sim refl (read_host_sim x.text) (subst (λ o. Ran P (V P) (read_bound x (c.env x)) (read_bound x o)) (hc.env.at x kept) (read_bound_sim x (c.env x) kept l))

  same_initialised : {x : Name} {o p : Option Value} → Maybe (Held P x) o p → is_initialised o ≡ is_initialised p
  same_initialised neither = refl
  same_initialised (both r) = refl

  write_cell_sim : (x : Name) → P.dropped x ≡ false → Firm P.names x → P.guarded x ≡ false → (k : ℕ) {v w : Value} {o p : Option Cell} → V P v w → Maybe (SameCell P x) o p → Ran P (V P) (write_cell x k v o) (write_cell x k w p)
  write_cell_sim x keeps z f k r neither = leaves_sim leaves
  write_cell_sim x keeps z f k r (both (alike w q)) = if_sim (ap₂ ◌&&◌ w (same_initialised q)) (λ s t h. done r (set_held_sim h x keeps k (free f) (alike w q) r)) (leaves_sim leaves)
  write_cell_sim x keeps z f k r (both (unlike e g)) = absurd (firm_cell P.names x z e g)

  write_bound_sim : (x : Name) (o : Option ℕ) → P.dropped x ≡ false → Firm P.names x → P.guarded x ≡ false → {v w : Value} → V P v w → Ran P (V P) (write_bound x v o) (write_bound x w o)
  write_bound_sim x None keeps z f r = leaves_sim leaves
  write_bound_sim x (Some k) keeps z f r = λ s t h. write_cell_sim x keeps z f k r (cell_sim h x keeps k) s t h

  -- an event that tells a value, and gives it
  pub tell_sim : (e : Value → Event) {v w : Value} → V P v w → Ran P (V P) (hand v >>= λ x. ask (e x) >>= λ r. gives v) (hand w >>= λ x. ask (e x) >>= λ r. gives w)
  tell_sim e r = bind (hand_sim r) (λ a b q. bind (ask_same (ap e q)) (λ x y p. gives_sim r))

  write_host_sim : (x : List ℕ) {v w : Value} → V P v w → Ran P (V P) (write_host x v) (write_host x w)
  write_host_sim x r = if_sim refl (leaves_sim leaves) (tell_sim (Writes x) r)

  pub write_kept_sim : (mark : ℕ) (x : Name) → P.dropped x ≡ false → Firm P.names x → P.guarded x ≡ false → {v w : Value} {c d : Context} → V P v w → C P c d → Ran P (V P) (write mark x v c) (write mark x w d)
  unfolding write
  write_kept_sim mark x keeps z f {v} {w} {c} {d} r hc =
      if_sim refl (write_host_sim x.text r) (subst (λ o. Ran P (V P) (write_bound x v (c.env x)) (write_bound x w o)) (hc.env.at x keeps) (write_bound_sim x (c.env x) keeps z f r))

  pub write_sim : (mark : ℕ) (x : Name) → Settable P.names mark x → {v w : Value} {c d : Context} → V P v w → C P c d → Ran P (V P) (write mark x v c) (write mark x w d)
  write_sim mark x (never g e u) {v} {w} {c} {d} r hc = λ s t h. from_outside _ (dead_write mark x v c s u e (h.guards.at x g))
  write_sim mark x (may_set keeps l f) r hc = write_kept_sim mark x keeps (not_loose l) f r hc

  initialise_cell_sim : (x : Name) → P.dropped x ≡ false → (k : ℕ) {v w : Value} {o p : Option Cell} → Puts P.names x v → V P v w → Maybe (SameCell P x) o p → Ran P (V P) (initialise_cell x k v o) (initialise_cell x k w p)
  initialise_cell_sim x keeps k f r neither = leaves_sim leaves
  initialise_cell_sim x keeps k f r (both q) = λ s t h. done undefined (set_held_sim h x keeps k f q r)

  initialise_at : (x : Name) (o : Option ℕ) → P.dropped x ≡ false → {v w : Value} → Puts P.names x v → V P v w → Ran P (V P) (initialise_bound x v o) (initialise_bound x w o)
  initialise_at x None keeps f r = leaves_sim leaves
  initialise_at x (Some k) keeps f r = λ s t h. initialise_cell_sim x keeps k f r (cell_sim h x keeps k) s t h

  pub initialise_sim : (x : Name) → P.dropped x ≡ false → {v w : Value} {c d : Context} → Puts P.names x v → V P v w → C P c d → Ran P (V P) (initialise x v c) (initialise x w d)
  unfolding initialise
  initialise_sim x keeps {v} {w} {c} {d} f r hc = subst (λ o. Ran P (V P) (initialise x v c) (initialise_bound x w o)) (hc.env.at x keeps) (initialise_at x (c.env x) keeps f r)
