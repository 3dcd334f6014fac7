-- Cells, names and the host: each takes related states to related outcomes.
use Rattle.std.proofs.Common.{◌≡◌, ℕ, zero, suc, Bool, true, false, List, [], ◌∷◌, ◌++◌, Option, Some, None, refl, sym, ap, ap₂, subst, length, slice_get, slice_set, cond, if◌then◌else◌, ◌∙◌, ◌&&◌, ◌==◌, ◌||◌}
use Rattle.std.proofs.lemmas.Bool.{false≢true}
use Rattle.swc_ast.specs.Tree.{Name, same_name}
use Rattle.swc_ast.specs.Value.{Value, Items, Record, Own, Values, ◌▹◌, Fields, field, is_data, Event, Reads, Writes, Reply, Gives, Throws, Back, Cell, State, Thrown, Done, Jumps, Outside, Cut, Context}
use Rattle.swc_ast.specs.Meaning.{◌>>=◌, gives, leaves, take_reply, ask, tell, hand_function, hand, hand_all, hand_fields, is_unresolved, cell_at, set_cell, held_value, read_bound, read_host, read, write_cell, write_bound, write_host, write, is_initialised, initialise_cell, initialise_bound, initialise}
use Rattle.rename_proofs.proofs.Relation.{Pairing, Each, none, more, Maybe, neither, both, V, Vs, Fs, undefined, null, nan, type_error, script_this, truth, num, text, items, entries, function, token, own, no_value, value, no_entry, entry, SameCell, S, C, thrown, Sim, done, jump, outside, cut, Ran}
use Rattle.rename_proofs.proofs.Names.{same_name_eq, same_itself}
use Rattle.rename_proofs.proofs.Combine.{Eq, gives_sim, leaves_sim, if_sim, if_when, in_core_sim, bind}
use Rattle.rename_proofs.proofs.Data.{data_same}

module _ {A : Type 0} {RA : A → A → Type 0} where
  pub get_each : {xs ys : List A} → Each RA xs ys → (k : ℕ) → Maybe RA (slice_get xs k) (slice_get ys k)
  get_each none k = neither
  get_each (more r rs) zero = both r
  get_each (more r rs) (suc k) = get_each rs k

  pub set_each : {xs ys : List A} → Each RA xs ys → (k : ℕ) {a b : A} → RA a b → Each RA (slice_set xs k a) (slice_set ys k b)
  set_each none k q = none
  set_each (more r rs) zero q = more q rs
  set_each (more r rs) (suc k) q = more r (set_each rs k q)

  pub length_each : {xs ys : List A} → Each RA xs ys → length xs ≡ length ys
  length_each none = refl
  length_each (more r rs) = ap suc (length_each rs)

  pub append_each : {xs ys us vs : List A} → Each RA xs ys → Each RA us vs → Each RA (xs ++ us) (ys ++ vs)
  append_each none q = q
  append_each (more r rs) q = more r (append_each rs q)

  pub cond_each : (b : Bool) {xs ys us vs : List A} → Each RA xs us → Each RA ys vs → Each RA (cond b xs ys) (cond b us vs)
  cond_each true p q = p
  cond_each false p q = q

module _ (P : Pairing) where
  -- names are told apart as before
  pub same_new : (x y : Name) → same_name (P.to x) (P.to y) ≡ same_name x y
  same_new x y = go (same_name x y) refl (same_name (P.to x) (P.to y)) refl
    where
      go : (b : Bool) → same_name x y ≡ b → (d : Bool) → same_name (P.to x) (P.to y) ≡ d → same_name (P.to x) (P.to y) ≡ same_name x y
      go true e d q = sym (ap (λ (z : Name). same_name (P.to x) (P.to z)) (same_name_eq x y e)) ∙ same_itself (P.to x) ∙ sym e
      go false e false q = q ∙ sym e
      go false e true q = absurd (false≢true (sym e ∙ sym (ap (same_name x) (P.is.one_to_one x y (same_name_eq (P.to x) (P.to y) q))) ∙ same_itself x))

  -- a name stays a host's, or the program's
  pub same_unresolved : (x : Name) → is_unresolved P.mark (P.to x) ≡ is_unresolved P.mark x
  same_unresolved x = ap (λ (k : ℕ). (k == 0) || (k == P.mark)) (P.is.keeps_context x)

  -- the text of a host's name
  pub host_text : (x : Name) → is_unresolved P.mark x ≡ true → x.text ≡ (P.to x).text
  host_text x e = ap (λ (z : Name). z.text) (sym (P.is.hosts_stay x e))

module _ {P : Pairing} where
  -- the host

  pub with_replies : {s t : State} (rs : List Reply) → S P s t → S P (record s { replies = rs }) (record t { replies = rs })
  with_replies rs h = record { events = h.events; replies = refl; handed = h.handed; natives = h.natives; cells = h.cells }

  take_gives : (v : Value) (b : Bool) {s t : State} → is_data v ≡ b → S P s t → Sim P (V P) (if b then Done v s else Outside) (if b then Done v t else Outside)
  take_gives v true e h = done (data_same v e) h
  take_gives v false e h = outside Outside

  take_throws : (v : Value) (b : Bool) {s t : State} → is_data v ≡ b → S P s t → Sim P (V P) (if b then Jumps (Thrown v) s else Outside) (if b then Jumps (Thrown v) t else Outside)
  take_throws v true e h = jump (thrown (data_same v e)) h
  take_throws v false e h = outside Outside

  pub take_sim : (rs : List Reply) {s t : State} → S P s t → Sim P (V P) (take_reply rs s) (take_reply rs t)
  take_sim [] h = cut Cut
  take_sim (Gives v ∷ rs) h = take_gives v (is_data v) refl (with_replies rs h)
  take_sim (Throws v ∷ rs) h = take_throws v (is_data v) refl (with_replies rs h)
  take_sim (Back k this args ∷ rs) h = outside Outside

  pub asked : (e : Event) {s t : State} → S P s t → S P (record s { events = s.events ++ e ∷ [] }) (record t { events = t.events ++ e ∷ [] })
  asked e {s} {t} h = record { events = ap (λ es. es ++ e ∷ []) h.events; replies = h.replies; handed = h.handed; natives = h.natives; cells = h.cells }

  pub ask_sim : (e : Event) → Ran P (V P) (ask e) (ask e)
  unfolding ask
  ask_sim e s t h =
      subst (λ rs. Sim P (V P) (take_reply s.replies (record s { events = s.events ++ e ∷ [] })) (take_reply rs (record t { events = t.events ++ e ∷ [] }))) h.replies (take_sim s.replies (asked e h))

  pub ask_same : {e f : Event} → e ≡ f → Ran P (V P) (ask e) (ask f)
  ask_same {e} p = subst (λ f. Ran P (V P) (ask e) (ask f)) p (ask_sim e)

  pub tell_same : {e f : Event} → e ≡ f → Ran P (V P) (tell e) (tell f)
  unfolding tell
  tell_same {e} p = subst (λ f. Ran P (V P) (tell e) (tell f)) p (λ s t h. done undefined (asked e h))

  -- what is handed to the host is equal, and the functions in it are related

  handed_more : {v w : Value} {s t : State} → V P v w → S P s t → S P (record s { handed = s.handed ++ v ∷ [] }) (record t { handed = t.handed ++ w ∷ [] })
  handed_more r h = record { events = h.events; replies = h.replies; handed = append_each h.handed (more r none); natives = h.natives; cells = h.cells }

  hand_function_sim : {v w : Value} → V P v w → Ran P Eq (hand_function v) (hand_function w)
  hand_function_sim r s t h = done (ap Own (length_each h.handed)) (handed_more r h)

  mutual
    unfolding hand hand_all hand_fields

    pub hand_sim : {v w : Value} → V P v w → Ran P Eq (hand v) (hand w)
    hand_sim undefined = gives_sim refl
    hand_sim null = gives_sim refl
    hand_sim nan = gives_sim refl
    hand_sim type_error = gives_sim refl
    hand_sim script_this = leaves_sim leaves
    hand_sim (truth b) = gives_sim refl
    hand_sim (num z) = gives_sim refl
    hand_sim (text t) = gives_sim refl
    hand_sim (items rs) = bind (hand_all_sim rs) (λ vs ws e. gives_sim (ap Items e))
    hand_sim (entries rs) = bind (hand_fields_sim rs) (λ fs gs e. gives_sim (ap Record e))
    hand_sim (function k e r) = hand_function_sim (function k e r)
    hand_sim (token n b) = gives_sim refl
    hand_sim (own k) = gives_sim refl

    pub hand_all_sim : {vs ws : Values} → Vs P vs ws → Ran P Eq (hand_all vs) (hand_all ws)
    hand_all_sim no_value = gives_sim refl
    hand_all_sim (value r rs) = bind (hand_sim r) (λ v w e. bind (hand_all_sim rs) (λ vs ws d. gives_sim (ap₂ ◌▹◌ e d)))

    hand_fields_sim : {fs gs : Fields} → Fs P fs gs → Ran P Eq (hand_fields fs) (hand_fields gs)
    hand_fields_sim no_entry = gives_sim refl
    hand_fields_sim (entry k r rs) = bind (hand_sim r) (λ v w e. bind (hand_fields_sim rs) (λ fs gs d. gives_sim (ap₂ (field k) e d)))

  -- cells

  pub cell_sim : {s t : State} → S P s t → (x : Name) (k : ℕ) → Maybe (SameCell P) (cell_at s x k) (cell_at t (P.to x) k)
  cell_sim h x k = get_each (h.cells x) k

  renewed : {c d : Cell} {v w : Value} → SameCell P c d → V P v w → SameCell P (record c { held = Some v }) (record d { held = Some w })
  renewed h r = record { writable = h.writable; held = both r }

  pub set_cell_sim : {s t : State} → S P s t → (x : Name) (k : ℕ) {c d : Cell} → SameCell P c d → S P (set_cell s x k c) (set_cell t (P.to x) k d)
  set_cell_sim {s} {t} h x k {c} {d} q = record {
    events = h.events;
    replies = h.replies;
    handed = h.handed;
    natives = h.natives;
    cells = λ y. subst (λ (b : Bool). Each (SameCell P) (cond (same_name x y) (slice_set (s.store y) k c) (s.store y)) (cond b (slice_set (t.store (P.to y)) k d) (t.store (P.to y)))) (sym (same_new P x y)) (cond_each (same_name x y) (set_each (h.cells y) k q) (h.cells y));
  }

  held_sim : {o p : Option Cell} → Maybe (SameCell P) o p → Ran P (V P) (held_value o) (held_value p)
  held_sim neither = leaves_sim leaves
  held_sim (both q) = in_core_sim q.held

  pub read_bound_sim : (x : Name) (o : Option ℕ) → Ran P (V P) (read_bound x o) (read_bound (P.to x) o)
  read_bound_sim x None = leaves_sim leaves
  read_bound_sim x (Some k) = λ s t h. held_sim (cell_sim h x k) s t h

  read_host_sim : (x : List ℕ) → Ran P (V P) (read_host x) (read_host x)
  read_host_sim x = if_sim refl (gives_sim undefined) (if_sim refl (gives_sim nan) (if_sim refl (leaves_sim leaves) (ask_sim (Reads x))))

  pub in_env_of : {e f : Option ℕ} (x : Name) → e ≡ f → Ran P (V P) (read_bound x e) (read_bound (P.to x) f)
  in_env_of {e} x q = subst (λ (o : Option ℕ). Ran P (V P) (read_bound x e) (read_bound (P.to x) o)) q (read_bound_sim x e)

  pub read_sim : (x : Name) {c d : Context} → C P c d → Ran P (V P) (read P.mark x c) (read P.mark (P.to x) d)
  unfolding read
  read_sim x {c} {d} hc =
      if_when (sym (same_unresolved P x))
      (λ e. subst (λ (t : List ℕ). Ran P (V P) (read_host x.text) (read_host t)) (host_text P x e) (read_host_sim x.text))
      (λ e. in_env_of x (hc.env.at x))

  same_initialised : {o p : Option Value} → Maybe (V P) o p → is_initialised o ≡ is_initialised p
  same_initialised neither = refl
  same_initialised (both r) = refl

  write_cell_sim : (x : Name) (k : ℕ) {v w : Value} {o p : Option Cell} → V P v w → Maybe (SameCell P) o p → Ran P (V P) (write_cell x k v o) (write_cell (P.to x) k w p)
  write_cell_sim x k r neither = leaves_sim leaves
  write_cell_sim x k r (both q) = if_sim (ap₂ ◌&&◌ q.writable (same_initialised q.held)) (λ s t h. done r (set_cell_sim h x k (renewed q r))) (leaves_sim leaves)

  write_bound_sim : (x : Name) (o : Option ℕ) {v w : Value} → V P v w → Ran P (V P) (write_bound x v o) (write_bound (P.to x) w o)
  write_bound_sim x None r = leaves_sim leaves
  write_bound_sim x (Some k) r = λ s t h. write_cell_sim x k r (cell_sim h x k) s t h

  -- an event that tells a value, and gives it
  pub tell_sim : (e : Value → Event) {v w : Value} → V P v w → Ran P (V P) (hand v >>= λ x. ask (e x) >>= λ r. gives v) (hand w >>= λ x. ask (e x) >>= λ r. gives w)
  tell_sim e r = bind (hand_sim r) (λ a b q. bind (ask_same (ap e q)) (λ x y p. gives_sim r))

  write_host_sim : (x : List ℕ) {v w : Value} → V P v w → Ran P (V P) (write_host x v) (write_host x w)
  write_host_sim x r = if_sim refl (leaves_sim leaves) (tell_sim (Writes x) r)

  pub write_sim : (x : Name) {v w : Value} {c d : Context} → V P v w → C P c d → Ran P (V P) (write P.mark x v c) (write P.mark (P.to x) w d)
  unfolding write
  write_sim x {v} {w} {c} {d} r hc =
      if_when (sym (same_unresolved P x))
      (λ e. subst (λ (t : List ℕ). Ran P (V P) (write_host x.text v) (write_host t w)) (host_text P x e) (write_host_sim x.text r))
      (λ e. subst (λ (o : Option ℕ). Ran P (V P) (write_bound x v (c.env x)) (write_bound (P.to x) w o)) (hc.env.at x) (write_bound_sim x (c.env x) r))

  initialise_cell_sim : (x : Name) (k : ℕ) {v w : Value} {o p : Option Cell} → V P v w → Maybe (SameCell P) o p → Ran P (V P) (initialise_cell x k v o) (initialise_cell (P.to x) k w p)
  initialise_cell_sim x k r neither = leaves_sim leaves
  initialise_cell_sim x k r (both q) = λ s t h. done undefined (set_cell_sim h x k (renewed q r))

  initialise_at : (x : Name) (o : Option ℕ) {v w : Value} → V P v w → Ran P (V P) (initialise_bound x v o) (initialise_bound (P.to x) w o)
  initialise_at x None r = leaves_sim leaves
  initialise_at x (Some k) r = λ s t h. initialise_cell_sim x k r (cell_sim h x k) s t h

  pub initialise_sim : (x : Name) {v w : Value} {c d : Context} → V P v w → C P c d → Ran P (V P) (initialise x v c) (initialise (P.to x) w d)
  unfolding initialise
  initialise_sim x {v} {w} {c} {d} r hc = subst (λ (o : Option ℕ). Ran P (V P) (initialise x v c) (initialise_bound (P.to x) w o)) (hc.env.at x) (initialise_at x (c.env x) r)
