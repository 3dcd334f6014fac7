-- Cells and the host, in a run in which names stand for names.
use Rattle.std.proofs.Common.{◌≡◌, ℕ, zero, suc, Bool, true, false, ◌&&◌, List, [], ◌∷◌, ◌++◌, Option, Some, None, refl, sym, ap, subst, length, slice_get, slice_set, cond, ◌∙◌}
use Rattle.std.proofs.lemmas.Bool.{false≢true}
use Rattle.swc_ast.specs.Tree.{Name, same_name}
use Rattle.swc_ast.specs.Value.{Value, Undefined, Null, NaN, TypeError, ScriptThis, Truth, Num, Text, Items as ItemsValue, Record, Function, Token, Own, Values, ∅, ◌▹◌, Fields, nofield, field, is_data, all_data, fields_data, Event, Reads, Writes, Reply, Gives, Throws, Back, Cell, State, Thrown, Done, Jumps, Outside, Cut, Context}
use Rattle.swc_ast.specs.Meaning.{◌>>=◌, gives, leaves, take_reply, ask, tell, hand_function, hand, hand_all, hand_fields, is_unresolved, cell_at, set_cell, held_value, read_bound, read_host, read, write_cell, write_bound, write_host, write, is_initialised, initialise_cell, initialise_bound, initialise}
use Rattle.std.proofs.lemmas.Bool.{and_parts}
use Rattle.link_proofs.specs.Links.{Links, Proper, Written, may_write, never_writes}
use Rattle.meaning_proofs.proofs.Names.{same_name_eq}
use Rattle.link_proofs.proofs.State.{World, Any, grown_itself, Fine, fine_up, Fines, fines_up, FineFields, fields_up, Behind, Steady, is_fixed, is_still, Holds, FineState, Stays, stays, is_free, Later, Ends, done, jump, outside, cut, Runs, after, gives_safe, leaves_safe, if_safe, in_core_safe, bind}

-- data

mutual
  pub data_fine : (L : Links) (w : World) (v : Value) → is_data v ≡ true → Fine L w v
  data_fine L w (ItemsValue vs) e = all_data_fine L w vs e
  data_fine L w (Record fs) e = fields_data_fine L w fs e
  data_fine L w (Function f d t) e = absurd (false≢true e)
  data_fine L w _ e = tt

  pub all_data_fine : (L : Links) (w : World) (vs : Values) → all_data vs ≡ true → Fines L w vs
  all_data_fine L w ∅ e = tt
  all_data_fine L w (v ▹ vs) e = let p = and_parts (is_data v) (all_data vs) e in (data_fine L w v p.0, all_data_fine L w vs p.1)

  pub fields_data_fine : (L : Links) (w : World) (fs : Fields) → fields_data fs ≡ true → FineFields L w fs
  fields_data_fine L w nofield e = tt
  fields_data_fine L w (field k v fs) e = let p = and_parts (is_data v) (fields_data fs) e in (data_fine L w v p.0, fields_data_fine L w fs p.1)

-- lists of cells

-- what stands at a place of a list of which one place was set
data Slot {A : Type 0} (xs : List A) (k : ℕ) (a : A) (j : ℕ) : Type 0 where
  the_same : j ≡ k → slice_get (slice_set xs k a) j ≡ Some a → Slot xs k a j
  another : slice_get (slice_set xs k a) j ≡ slice_get xs j → Slot xs k a j

slot : {A : Type 0} (xs : List A) (k : ℕ) (a : A) (j : ℕ) → Slot xs k a j
slot [] k a j = another refl
slot (x ∷ xs) zero a zero = the_same refl refl
slot (x ∷ xs) zero a (suc j) = another refl
slot (x ∷ xs) (suc k) a zero = another refl
slot (x ∷ xs) (suc k) a (suc j) = go (slot xs k a j)
  where
    go : Slot xs k a j → Slot (x ∷ xs) (suc k) a (suc j)
    go (the_same e q) = the_same (ap suc e) q
    go (another q) = another q

set_length : {A : Type 0} (xs : List A) (k : ℕ) (a : A) → length (slice_set xs k a) ≡ length xs
set_length [] k a = refl
set_length (x ∷ xs) zero a = refl
set_length (x ∷ xs) (suc k) a = ap suc (set_length xs k a)

pub get_end : {A : Type 0} (xs : List A) (a : A) → slice_get (xs ++ a ∷ []) (length xs) ≡ Some a
get_end [] a = refl
get_end (x ∷ xs) a = get_end xs a

pub get_past : {A : Type 0} (xs : List A) → slice_get xs (length xs) ≡ None
get_past [] = refl
get_past (x ∷ xs) = get_past xs

pub get_more : {A : Type 0} (xs ys : List A) (k : ℕ) (a : A) → slice_get xs k ≡ Some a → slice_get (xs ++ ys) k ≡ Some a
get_more [] ys k a e = cc
get_more (x ∷ xs) ys zero a e = e
get_more (x ∷ xs) ys (suc k) a e = get_more xs ys k a e

-- a place of a list that is one longer
pub data Longer {A : Type 0} (xs : List A) (a : A) (k : ℕ) (b : A) : Type 0 where
  before : slice_get xs k ≡ Some b → Longer xs a k b
  at_end : k ≡ length xs → b ≡ a → Longer xs a k b

some_same : {A : Type 0} {a b : A} → Some a ≡ Some b → a ≡ b
some_same e = cc

pub longer : {A : Type 0} (xs : List A) (a : A) (k : ℕ) (b : A) → slice_get (xs ++ a ∷ []) k ≡ Some b → Longer xs a k b
longer [] a zero b e = at_end refl (sym (some_same e))
longer [] a (suc k) b e = cc
longer (x ∷ xs) a zero b e = before e
longer (x ∷ xs) a (suc k) b e = go (longer xs a k b e)
  where
    go : Longer xs a k b → Longer (x ∷ xs) a (suc k) b
    go (before q) = before q
    go (at_end q r) = at_end (ap suc q) r

-- cells of a state of which one was set
pub data SetAt (s : State) (x : Name) (k : ℕ) (c : Cell) (y : Name) (j : ℕ) : Type 0 where
  here : x ≡ y → j ≡ k → slice_get ((set_cell s x k c).store y) j ≡ Some c → SetAt s x k c y j
  elsewhere : slice_get ((set_cell s x k c).store y) j ≡ slice_get (s.store y) j → SetAt s x k c y j

pub set_at : (s : State) (x : Name) (k : ℕ) (c : Cell) (y : Name) (j : ℕ) → SetAt s x k c y j
set_at s x k c y j = go (same_name x y) refl (slot (s.store y) k c j)
  where
    at : (b : Bool) → same_name x y ≡ b → slice_get ((set_cell s x k c).store y) j ≡ slice_get (cond b (slice_set (s.store y) k c) (s.store y)) j
    at b e = ap (λ (b : Bool). slice_get (cond b (slice_set (s.store y) k c) (s.store y)) j) e

    go : (b : Bool) → same_name x y ≡ b → Slot (s.store y) k c j → SetAt s x k c y j
    go false e q = elsewhere (at false e)
    go true e (the_same p q) = here (same_name_eq x y e) p (at true e ∙ q)
    go true e (another q) = elsewhere (at true e ∙ q)

pub store_length : (s : State) (x : Name) (k : ℕ) (c : Cell) (y : Name) → length ((set_cell s x k c).store y) ≡ length (s.store y)
store_length s x k c y = go (same_name x y)
  where
    go : (b : Bool) → length (cond b (slice_set (s.store y) k c) (s.store y)) ≡ length (s.store y)
    go true = set_length (s.store y) k c
    go false = refl

-- nothing is known of an instance
pub data NoFact (L : Links) (w : World) (x : Name) (k : ℕ) : Type 0 where
  moving : L.still x ≡ false → NoFact L w x k
  unknown : w.facts x k ≡ None → NoFact L w x k

-- a name's cell may be set: it is not fixed, or it holds nothing yet, and what stands behind it, or is known of it, is the value
pub data MaySet (L : Links) (w : World) (s : State) (x : Name) (k : ℕ) (d : Cell) (v : Value) : Type 0 where
  unfixed : L.fixed x ≡ false → NoFact L w x k → MaySet L w s x k d v
  at_first : d.held ≡ None → ((y : Name) → L.link x ≡ Some y → Behind w s x y k v) → ((u : Value) → L.known x ≡ Some u → v ≡ u) → MaySet L w s x k d v

module _ {L : Links} {mark : ℕ} (P : Proper L mark) where
  pub set_state : (w : World) (s : State) (x : Name) (k : ℕ) (d : Cell) (v : Value) → FineState L w s → slice_get (s.store x) k ≡ Some d → Fine L w v → MaySet L w s x k d v → FineState L w (set_cell s x k (record d { held = Some v }))
  set_state w s x k d v h there r q = record {
    sized = λ z f. h.sized z f ∙ sym (store_length s x k c z);
    fine = λ z j b u e p. fine_at z j b u e p (set_at s x k c z j);
    linked = λ y z l j b u e p. linked_at y z l j b u e p (set_at s x k c y j);
    known = λ y a l j b u e p. known_at y a l j b u e p (set_at s x k c y j) q;
    frozen = λ y f j b e. frozen_at y f j b e (set_at s x k c y j);
    facts = λ z j u e. let o = h.facts z j u e in facts_at z j u e o q (set_at s x k c z j);
    handed = h.handed;
  }
    where
      c : Cell
      c = record d { held = Some v }

      fine_at : (z : Name) (j : ℕ) (b : Cell) (u : Value) → slice_get ((set_cell s x k c).store z) j ≡ Some b → b.held ≡ Some u → SetAt s x k c z j → Fine L w u
      fine_at z j b u e p (here n i g) = subst (Fine L w) (some_same (ap (λ (c : Cell). c.held) (some_same (sym g ∙ e)) ∙ p)) r
      fine_at z j b u e p (elsewhere g) = h.fine z j b u (sym g ∙ e) p

      known_at : (y : Name) (a : Value) → L.known y ≡ Some a → (j : ℕ) (b : Cell) (u : Value) → slice_get ((set_cell s x k c).store y) j ≡ Some b → b.held ≡ Some u → SetAt s x k c y j → MaySet L w s x k d v → u ≡ a
      known_at y a l j b u e p (here n i g) (unfixed f o') = absurd (false≢true (sym f ∙ ap L.fixed n ∙ P.known_fixed y a l))
      known_at y a l j b u e p (here n i g) (at_first r i' o) = sym (some_same (ap (λ (c : Cell). c.held) (some_same (sym g ∙ e)) ∙ p)) ∙ o a (ap L.known n ∙ l)
      known_at y a l j b u e p (elsewhere g) m = h.known y a l j b u (sym g ∙ e) p

      frozen_at : (y : Name) → L.constant y ≡ true → (j : ℕ) (b : Cell) → slice_get ((set_cell s x k c).store y) j ≡ Some b → SetAt s x k c y j → b.writable ≡ false
      frozen_at y f j b e (here n i g) = sym (ap (λ (c : Cell). c.writable) (some_same (sym g ∙ e))) ∙ h.frozen x (ap L.constant n ∙ f) k d there
      frozen_at y f j b e (elsewhere g) = h.frozen y f j b (sym g ∙ e)

      facts_at : (z : Name) (j : ℕ) (u : Value) → w.facts z j ≡ Some u → (o : Holds L s z j u) → MaySet L w s x k d v → SetAt s x k c z j → Holds L (set_cell s x k c) z j u
      facts_at z j u e o m (elsewhere g) = record { steady = o.steady; cell = o.cell; there = g ∙ o.there; holds = o.holds }
      facts_at z j u e o (at_first p i' i'') (here n i g) = absurd (none_some (sym p ∙ ap (λ (b : Cell). b.held) (some_same (sym there ∙ ap (λ (z : Name). slice_get (s.store z) k) n ∙ ap (slice_get (s.store z)) (sym i) ∙ o.there)) ∙ o.holds))
        where
          none_some : None ≡ Some u → ⊥
          none_some e = cc
      facts_at z j u e o (unfixed f (unknown r)) (here n i g) = absurd (none_some (sym r ∙ ap (λ (z : Name). w.facts z k) n ∙ ap (w.facts z) (sym i) ∙ e))
        where
          none_some : None ≡ Some u → ⊥
          none_some e = cc
      facts_at z j u e o (unfixed f (moving r)) (here n i g) = absurd (no_steady o.steady)
        where
          no_steady : Steady L z → ⊥
          no_steady (is_fixed a) = false≢true (sym f ∙ ap L.fixed n ∙ a)
          no_steady (is_still a) = false≢true (sym r ∙ ap L.still n ∙ a)

      still : (y z : Name) (j : ℕ) (u : Value) → L.link y ≡ Some z → (i : ℕ) (b : Cell) → slice_get (w.links y) j ≡ Some (Some i) → slice_get (s.store z) i ≡ Some b → b.held ≡ Some u → MaySet L w s x k d v → (x ≡ z → i ≡ k → ⊥) → SetAt s x k c z i → Behind w (set_cell s x k c) y z j u
      still y z j u l i b e t o q differs (here n m g) = absurd (differs n m)
      still y z j u l i b e t o q differs (elsewhere g) = record { index = i; cell = b; linked = e; there = g ∙ t; holds = o }

      not_it : (y z : Name) (u : Value) → L.link y ≡ Some z → (i : ℕ) (b : Cell) → slice_get (s.store z) i ≡ Some b → b.held ≡ Some u → MaySet L w s x k d v → x ≡ z → i ≡ k → ⊥
      not_it y z u l i b t o (unfixed f o') n m = false≢true (sym f ∙ ap L.fixed n ∙ P.target_fixed y z l)
      not_it y z u l i b t o (at_first e g i') n m =
          let same : b ≡ d = some_same (sym t ∙ ap (λ (j : ℕ). slice_get (s.store z) j) m ∙ ap (λ (z : Name). slice_get (s.store z) k) (sym n) ∙ there) in
          none_some (sym e ∙ ap (λ (b : Cell). b.held) (sym same) ∙ o)
        where
          none_some : None ≡ Some u → ⊥
          none_some e = cc

      own : (z : Name) → L.link x ≡ Some z → (u : Value) → v ≡ u → MaySet L w s x k d v → Behind w (set_cell s x k c) x z k u
      own z l u e (unfixed f o') = absurd (false≢true (sym f ∙ P.linked_fixed x z l))
      own z l u e (at_first p g g') =
          let b = g z l in
          still x z k u l b.index b.cell b.linked b.there (b.holds ∙ ap Some e) (at_first p g g') (λ n m. no_self n) (set_at s x k c z b.index)
        where
          no_self : x ≡ z → ⊥
          no_self n = some_none (sym l ∙ ap L.link n ∙ P.target_ends x z l)
            where
              some_none : Some z ≡ None → ⊥
              some_none e = cc

      linked_at : (y z : Name) → L.link y ≡ Some z → (j : ℕ) (b : Cell) (u : Value) → slice_get ((set_cell s x k c).store y) j ≡ Some b → b.held ≡ Some u → SetAt s x k c y j → Behind w (set_cell s x k c) y z j u
      linked_at y z l j b u e p (here n i g) =
          subst (λ (y : Name). Behind w (set_cell s x k c) y z j u) n
          (subst (λ (j : ℕ). Behind w (set_cell s x k c) x z j u) (sym i)
          (own z (ap L.link n ∙ l) u (some_same (ap (λ (c : Cell). c.held) (some_same (sym g ∙ e)) ∙ p)) q))
      linked_at y z l j b u e p (elsewhere g) =
          let o = h.linked y z l j b u (sym g ∙ e) p in
          still y z j u l o.index o.cell o.linked o.there o.holds q (not_it y z u l o.index o.cell o.there o.holds q) (set_at s x k c z o.index)

  -- the cells of other names stay
  pub set_later : (F : Name → ℕ → Type 0) (w : World) (s : State) (x : Name) (k : ℕ) (c : Cell) → (L.fixed x ≡ true → F x k) → Later L F w s w (set_cell s x k c)
  set_later F w s x k c q = record { worlds = grown_itself; cells = λ y f j d e. go y f j d e (set_at s x k c y j) }
    where
      go : (y : Name) → L.fixed y ≡ true → (j : ℕ) (d : Cell) → slice_get (s.store y) j ≡ Some d → SetAt s x k c y j → Stays F y j d ((set_cell s x k c).store y)
      go y f j d e (here n i g) = is_free (subst (λ (y : Name). F y j) n (subst (F x) (sym i) (q (ap L.fixed n ∙ f))))
      go y f j d e (elsewhere g) = stays (g ∙ e)

  -- the host

  -- a state with the same cells, where what was handed to the host is fine
  pub fine_with : (w : World) (s : State) (es : List Event) (rs : List Reply) (vs : List Value) → FineState L w s → ((k : ℕ) (v : Value) → slice_get vs k ≡ Some v → Fine L w v) → FineState L w (record s { events = es; replies = rs; handed = vs })
  fine_with w s es rs vs h q = record {
    sized = h.sized;
    fine = h.fine;
    linked = λ y x l k c u p o. let b = h.linked y x l k c u p o in record { index = b.index; cell = b.cell; linked = b.linked; there = b.there; holds = b.holds };
    known = h.known;
    frozen = h.frozen;
    facts = λ z k u e. let b = h.facts z k u e in record { steady = b.steady; cell = b.cell; there = b.there; holds = b.holds };
    handed = q;
  }

  pub later_with : {F : Name → ℕ → Type 0} (w : World) (s : State) (es : List Event) (rs : List Reply) (vs : List Value) → Later L F w s w (record s { events = es; replies = rs; handed = vs })
  later_with w s es rs vs = record { worlds = grown_itself; cells = λ x f k c q. stays q }

  pub take_safe : {F : Name → ℕ → Type 0} (w : World) (rs : List Reply) → Runs L F (Fine L) w (take_reply rs) (take_reply rs)
  take_safe w [] t h = cut Cut
  take_safe {F} w (Gives v ∷ rs) t h = go (is_data v) refl
    where
      go : (b : Bool) → is_data v ≡ b → Ends L F (Fine L) w t (cond b (Done v (record t { replies = rs })) Outside) (cond b (Done v (record t { replies = rs })) Outside)
      go true e = done (later_with w t t.events rs t.handed) (fine_with w t t.events rs t.handed h h.handed) (data_fine L w v e)
      go false e = outside Outside
  take_safe {F} w (Throws v ∷ rs) t h = go (is_data v) refl
    where
      go : (b : Bool) → is_data v ≡ b → Ends L F (Fine L) w t (cond b (Jumps (Thrown v) (record t { replies = rs })) Outside) (cond b (Jumps (Thrown v) (record t { replies = rs })) Outside)
      go true e = jump (later_with w t t.events rs t.handed) (fine_with w t t.events rs t.handed h h.handed) (data_fine L w v e)
      go false e = outside Outside
  take_safe w (Back k this args ∷ rs) t h = outside Outside

  pub ask_safe : {F : Name → ℕ → Type 0} (w : World) (e : Event) → Runs L F (Fine L) w (ask e) (ask e)
  unfolding ask
  ask_safe w e s h =
      let es = s.events ++ e ∷ [] in
      after (later_with w s es s.replies s.handed) (take_safe w s.replies (record s { events = es }) (fine_with w s es s.replies s.handed h h.handed))

  pub tell_event_safe : {F : Name → ℕ → Type 0} (w : World) (e : Event) → Runs L F (Fine L) w (tell e) (tell e)
  unfolding tell
  tell_event_safe w e s h = let es = s.events ++ e ∷ [] in done (later_with w s es s.replies s.handed) (fine_with w s es s.replies s.handed h h.handed) tt

  -- what is handed to the host

  hand_function_safe : {F : Name → ℕ → Type 0} (w : World) (v : Value) → Fine L w v → Runs L F Any w (hand_function v) (hand_function v)
  hand_function_safe w v r s h = let vs = s.handed ++ v ∷ [] in done (later_with w s s.events s.replies vs) (fine_with w s s.events s.replies vs h (λ k u e. go k u (longer s.handed v k u e))) tt
    where
      go : (k : ℕ) (u : Value) → Longer s.handed v k u → Fine L w u
      go k u (before e) = h.handed k u e
      go k u (at_end i e) = subst (Fine L w) (sym e) r

  mutual
    unfolding hand hand_all hand_fields

    pub hand_safe : {F : Name → ℕ → Type 0} (w : World) (v : Value) → Fine L w v → Runs L F Any w (hand v) (hand v)
    hand_safe w Undefined h = gives_safe Undefined tt
    hand_safe w Null h = gives_safe Null tt
    hand_safe w NaN h = gives_safe NaN tt
    hand_safe w TypeError h = gives_safe TypeError tt
    hand_safe w ScriptThis h = leaves_safe leaves
    hand_safe w (Truth b) h = gives_safe (Truth b) tt
    hand_safe w (Num z) h = gives_safe (Num z) tt
    hand_safe w (Text t) h = gives_safe (Text t) tt
    hand_safe w (ItemsValue vs) h = bind (hand_all_safe w vs h) (λ v g ws q. gives_safe (ItemsValue ws) tt)
    hand_safe w (Record fs) h = bind (hand_fields_safe w fs h) (λ v g gs q. gives_safe (Record gs) tt)
    hand_safe w (Function f e t) h = hand_function_safe w (Function f e t) h
    hand_safe w (Token n b) h = gives_safe (Token n b) tt
    hand_safe w (Own k) h = gives_safe (Own k) tt

    pub hand_all_safe : {F : Name → ℕ → Type 0} (w : World) (vs : Values) → Fines L w vs → Runs L F Any w (hand_all vs) (hand_all vs)
    hand_all_safe w ∅ h = gives_safe ∅ tt
    hand_all_safe w (v ▹ vs) h = bind (hand_safe w v h.0) (λ u g a q. bind (hand_all_safe u vs (fines_up L g vs h.1)) (λ x p ws z. gives_safe (a ▹ ws) tt))

    hand_fields_safe : {F : Name → ℕ → Type 0} (w : World) (fs : Fields) → FineFields L w fs → Runs L F Any w (hand_fields fs) (hand_fields fs)
    hand_fields_safe w nofield h = gives_safe nofield tt
    hand_fields_safe w (field k v fs) h = bind (hand_safe w v h.0) (λ u g a q. bind (hand_fields_safe u fs (fields_up L g fs h.1)) (λ x p gs z. gives_safe (field k a gs) tt))

  -- reads

  held_safe : {F : Name → ℕ → Type 0} (w : World) (o : Option Cell) → ((c : Cell) (v : Value) → o ≡ Some c → c.held ≡ Some v → Fine L w v) → Runs L F (Fine L) w (held_value o) (held_value o)
  held_safe w None q = leaves_safe leaves
  held_safe w (Some c) q = in_core_safe c.held (λ v e. q c v refl e)

  pub read_bound_safe : {F : Name → ℕ → Type 0} (w : World) (x : Name) (o : Option ℕ) → Runs L F (Fine L) w (read_bound x o) (read_bound x o)
  read_bound_safe w x None = leaves_safe leaves
  read_bound_safe w x (Some k) = λ s h. held_safe w (cell_at s x k) (λ c v e q. h.fine x k c v e q) s h

  read_host_safe : {F : Name → ℕ → Type 0} (w : World) (x : List ℕ) → Runs L F (Fine L) w (read_host x) (read_host x)
  read_host_safe w x = if_safe _ (gives_safe Undefined tt) (if_safe _ (gives_safe NaN tt) (if_safe _ (leaves_safe leaves) (ask_safe w (Reads x))))

  pub read_safe : {F : Name → ℕ → Type 0} (w : World) (x : Name) (c : Context) → Runs L F (Fine L) w (read mark x c) (read mark x c)
  unfolding read
  read_safe w x c = if_safe (is_unresolved mark x) (read_host_safe w x.text) (read_bound_safe w x (c.env x))

  -- writes and first values

  pub set_safe : {F : Name → ℕ → Type 0} (w : World) (x : Name) (k : ℕ) (v a : Value) (d : Cell) (s : State) → FineState L w s → slice_get (s.store x) k ≡ Some d → Fine L w v → Fine L w a → MaySet L w s x k d v → (L.fixed x ≡ true → F x k)
      → Ends L F (Fine L) w s (Done a (set_cell s x k (record d { held = Some v }))) (Done a (set_cell s x k (record d { held = Some v })))
  set_safe {F} w x k v a d s h e r ra q f = done (set_later F w s x k _ f) (set_state w s x k d v h e r q) ra

  write_cell_safe : {F : Name → ℕ → Type 0} (w : World) (x : Name) (k : ℕ) (v : Value) → Written L x → Fine L w v → (s : State) → FineState L w s → (o : Option Cell) → slice_get (s.store x) k ≡ o → Ends L F (Fine L) w s (write_cell x k v o s) (write_cell x k v o s)
  write_cell_safe w x k v f r s h None e = outside Outside
  write_cell_safe {F} w x k v f r s h (Some c) e = go f (c.writable && is_initialised c.held) refl
    where
      go : Written L x → (b : Bool) → (c.writable && is_initialised c.held) ≡ b → Ends L F (Fine L) w s (cond b (λ (s : State). Done v (set_cell s x k (record c { held = Some v }))) leaves s) (cond b (λ (s : State). Done v (set_cell s x k (record c { held = Some v }))) leaves s)
      go (may_write f i) true q = set_safe w x k v v c s h e r r (unfixed f (moving i)) (λ q. absurd (false≢true (sym f ∙ q)))
      go (never_writes f) true q = absurd (false≢true (sym (h.frozen x f k c e) ∙ (and_parts c.writable (is_initialised c.held) q).0))
      go f false q = outside Outside

  write_bound_safe : {F : Name → ℕ → Type 0} (w : World) (x : Name) (v : Value) → Written L x → Fine L w v → (o : Option ℕ) → Runs L F (Fine L) w (write_bound x v o) (write_bound x v o)
  write_bound_safe w x v f r None = leaves_safe leaves
  write_bound_safe w x v f r (Some k) = λ s h. write_cell_safe w x k v f r s h (cell_at s x k) refl

  pub tell_safe : {F : Name → ℕ → Type 0} (w : World) (e : Value → Event) (v : Value) → Fine L w v → Runs L F (Fine L) w (hand v >>= λ x. ask (e x) >>= λ r. gives v) (hand v >>= λ x. ask (e x) >>= λ r. gives v)
  tell_safe w e v r = bind (hand_safe w v r) (λ u g x q. bind (ask_safe u (e x)) (λ z p a o. gives_safe v (fine_up L p v (fine_up L g v r))))

  write_host_safe : {F : Name → ℕ → Type 0} (w : World) (x : List ℕ) (v : Value) → Fine L w v → Runs L F (Fine L) w (write_host x v) (write_host x v)
  write_host_safe w x v r = if_safe _ (leaves_safe leaves) (tell_safe w (Writes x) v r)

  pub write_safe : {F : Name → ℕ → Type 0} (w : World) (x : Name) (v : Value) (c : Context) → Written L x → Fine L w v → Runs L F (Fine L) w (write mark x v c) (write mark x v c)
  unfolding write
  write_safe w x v c f r = if_safe (is_unresolved mark x) (write_host_safe w x.text v r) (write_bound_safe w x v f r (c.env x))

  -- a first value, where the name may be set
  initialise_at : {F : Name → ℕ → Type 0} (w : World) (x : Name) (v : Value) → Fine L w v → (o : Option ℕ) (s : State) → FineState L w s → ((k : ℕ) (d : Cell) → o ≡ Some k → slice_get (s.store x) k ≡ Some d → MaySet L w s x k d v × (L.fixed x ≡ true → F x k))
      → Ends L F (Fine L) w s (initialise_bound x v o s) (initialise_bound x v o s)
  initialise_at w x v r None s h q = outside Outside
  initialise_at {F} w x v r (Some k) s h q = go (cell_at s x k) refl
    where
      go : (o : Option Cell) → cell_at s x k ≡ o → Ends L F (Fine L) w s (initialise_cell x k v o s) (initialise_cell x k v o s)
      go None e = outside Outside
      go (Some d) e = let p = q k d refl e in set_safe w x k v Undefined d s h e r tt p.0 p.1

  pub initialise_safe : {F : Name → ℕ → Type 0} (w : World) (x : Name) (v : Value) (c : Context) → Fine L w v → (s : State) → FineState L w s → ((k : ℕ) (d : Cell) → c.env x ≡ Some k → slice_get (s.store x) k ≡ Some d → MaySet L w s x k d v × (L.fixed x ≡ true → F x k))
      → Ends L F (Fine L) w s (initialise x v c s) (initialise x v c s)
  unfolding initialise
  initialise_safe w x v c r s h q = initialise_at w x v r (c.env x) s h q

  pub initialise_unfixed : {F : Name → ℕ → Type 0} (w : World) (x : Name) (v : Value) (c : Context) → Fine L w v → L.fixed x ≡ false → ((k : ℕ) → c.env x ≡ Some k → NoFact L w x k) → Runs L F (Fine L) w (initialise x v c) (initialise x v c)
  initialise_unfixed w x v c r f i = λ s h. initialise_safe w x v c r s h (λ k d e q. (unfixed f (i k e), λ p. absurd (false≢true (sym f ∙ p))))
