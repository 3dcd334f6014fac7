-- A scope, in a run in which names stand for names.
use Rattle.std.proofs.Common.{◌≡◌, ℕ, suc, Bool, true, false, ◌||◌, List, [], ◌∷◌, ◌++◌, Option, Some, None, refl, sym, ap, length, slice_get, cond, ◌∙◌}
use Rattle.std.proofs.lemmas.Bool.{true≢false}
use Rattle.swc_ast.specs.Tree.{Name}
use Rattle.swc_ast.specs.Value.{Env, Value, Cell, State, Outcome, Run, Context}
use Rattle.swc_ast.specs.Meaning.{Scope, numbered, with_cell, in_scope}
use Rattle.link_proofs.specs.Links.{Links, Put, nothing, a_name, a_value, Proper, Ground, Opens, beside}
use Rattle.link_proofs.proofs.State.{World, Grown, grown_on, SettledBy, by_name, by_value, Fine, fine_up, FineEnv, SomeIndex, entry_of, FineContext, Behind, FineState, Stays, stays, is_free, Later, Nothing, Ends, done, jump, outside, cut, Runs}
use Rattle.link_proofs.proofs.Stores.{get_end, get_past, get_more, Longer, before, at_end, longer}

-- cells that may be set: those of some names, as an environment has them
abbrev pub Own : (Name → Bool) → Env → Name → ℕ → Type 0
Own B e x k = (B x ≡ true) × (e x ≡ Some k)

-- a name whose cell holds nothing yet
pub record Waits (e : Env) (s : State) (x : Name) : Type 0 where
  pub index : ℕ
  pub cell : Cell
  pub is_at : e x ≡ Some index
  pub there : slice_get (s.store x) index ≡ Some cell
  pub empty : cell.held ≡ None

pub record Pend (L : Links) (B : Name → Bool) (e : Env) (s : State) : Type 0 where
  pub at : (x : Name) → B x ≡ true → L.fixed x ≡ true × Waits e s x

-- what an instance holds
pub record Reaches (s : State) (o : Option ℕ) (x : Name) (v : Value) : Type 0 where
  pub index : ℕ
  pub cell : Cell
  pub is_at : o ≡ Some index
  pub there : slice_get (s.store x) index ≡ Some cell
  pub holds : cell.held ≡ Some v

pub record SomeCell (o : Option Cell) : Type 0 where
  pub cell : Cell
  pub is : o ≡ Some cell

pub record EmptyCell (o : Option Cell) : Type 0 where
  pub cell : Cell
  pub is : o ≡ Some cell
  pub empty : cell.held ≡ None

-- new cells of a scope
pub record NewCells (L : Links) (w : World) (e : Env) (s : State) (binds : Name → Bool) (cells : Scope) : Type 0 where
  pub there : (x : Name) → L.fixed x ≡ true → binds x ≡ true → SomeCell (cells x)
  pub fine : (x : Name) → binds x ≡ true → (c : Cell) (v : Value) → cells x ≡ Some c → c.held ≡ Some v → Fine L w v
  pub linked : (y x : Name) → L.link y ≡ Some x → binds y ≡ true → (c : Cell) (v : Value) → cells y ≡ Some c → c.held ≡ Some v → Reaches s (e x) x v
  pub known : (y : Name) (u : Value) → L.known y ≡ Some u → binds y ≡ true → (c : Cell) (v : Value) → cells y ≡ Some c → c.held ≡ Some v → v ≡ u
  pub frozen : (x : Name) → L.constant x ≡ true → binds x ≡ true → (c : Cell) → cells x ≡ Some c → c.writable ≡ false

abbrev pub opened_world : Links → (Name → Bool) → Env → World → World
opened_world L binds e w = record { links = λ z. cond (binds z) (w.links z ++ entry_of (L.link z) e ∷ []) (w.links z); facts = w.facts }

abbrev pub opened_state : (Name → Bool) → Scope → State → State
opened_state binds cells s = record s { store = λ x. cond (binds x) (with_cell (cells x) (s.store x)) (s.store x) }

-- what is at a place stays there
more_world : (b : Bool) (os : List (Option ℕ)) (p : Option ℕ) (k : ℕ) (o : Option ℕ) → slice_get os k ≡ Some o → slice_get (cond b (os ++ p ∷ []) os) k ≡ Some o
more_world true os p k o e = get_more os _ k o e
more_world false os p k o e = e

more_cells : (b : Bool) (cs : List Cell) (p : Option Cell) (k : ℕ) (c : Cell) → slice_get cs k ≡ Some c → slice_get (cond b (with_cell p cs) cs) k ≡ Some c
more_cells true cs None k c e = e
more_cells true cs (Some d) k c e = get_more cs _ k c e
more_cells false cs p k c e = e

pub opened_grown : (L : Links) (binds : Name → Bool) (e : Env) (w : World) → Grown w (opened_world L binds e w)
opened_grown L binds e w = record { more = record { at = λ z k o p. more_world (binds z) (w.links z) (entry_of (L.link z) e) k o p }; same = λ z k. refl }

-- where a scope binds a name, its instance is the next one
is_next : (binds : Name → Bool) (e : Env) (s : State) (x : Name) (b : Bool) → binds x ≡ b → numbered binds e s x ≡ cond b (Some (length (s.store x))) (e x)
is_next binds e s x b p = ap (λ (b : Bool). cond b (Some (length (s.store x))) (e x)) p

opened_at : (L : Links) (binds : Name → Bool) (e : Env) (w : World) (z : Name) (b : Bool) → binds z ≡ b → (opened_world L binds e w).links z ≡ cond b (w.links z ++ entry_of (L.link z) e ∷ []) (w.links z)
opened_at L binds e w z b p = ap (λ (b : Bool). cond b (w.links z ++ entry_of (L.link z) e ∷ []) (w.links z)) p

store_at : (binds : Name → Bool) (cells : Scope) (s : State) (z : Name) (b : Bool) → binds z ≡ b → (opened_state binds cells s).store z ≡ cond b (with_cell (cells z) (s.store z)) (s.store z)
store_at binds cells s z b p = ap (λ (b : Bool). cond b (with_cell (cells z) (s.store z)) (s.store z)) p

or_none : (b d : Bool) → (b || d) ≡ false → (b ≡ false) × (d ≡ false)
or_none false false e = (refl, refl)
or_none false true e = absurd (true≢false e)
or_none true d e = absurd (true≢false e)

some_is : {a b : ℕ} → Some a ≡ Some b → a ≡ b
some_is e = cc

none_is_some : {A : Type 0} {a : A} → None ≡ Some a → ⊥
none_is_some e = cc

suc_length : {A : Type 0} (xs : List A) (a : A) → length (xs ++ a ∷ []) ≡ suc (length xs)
suc_length [] a = refl
suc_length (x ∷ xs) a = ap suc (suc_length xs a)

module _ {L : Links} where
  -- the environment of a scope
  pub scope_env : (binds : Name → Bool) (G : Ground) (w : World) (e : Env) (s : State) → FineEnv L w G e → FineState L w s → Opens L G binds → FineEnv L (opened_world L binds (numbered binds e s) w) (beside binds G) (numbered binds e s)
  scope_env binds G w e s he h op = record {
    hidden = λ z q. let p = or_none (binds z) (G.names z) q in is_next binds e s z false p.0 ∙ he.hidden z p.1;
    shown = λ z q. shown z q (binds z) refl;
    at = λ z f k q. at z f k q (binds z) refl;
    settled = λ z q. let o = he.settled z q in record { index = o.index; value = o.value; is_at = is_next binds e s z false (op.settled z q) ∙ o.is_at; fact = o.fact; by = still_by z q (L.settles z) refl o.by };
    fresh = λ z q k i. fresh z q k i (binds z) refl;
  }
    where
      still_by : (z : Name) → G.settled z ≡ true → (p : Put) {u : Value} → L.settles z ≡ p → SettledBy w e u p → SettledBy (opened_world L binds (numbered binds e s) w) (numbered binds e s) u p
      still_by z q (a_name x) i (by_name j l f) = by_name j (is_next binds e s x false (op.settled_target z x q i) ∙ l) f
      still_by z q (a_value u) i by_value = by_value
      still_by z q nothing i b = elim b [ ]

      fresh : (z : Name) → (binds z || G.sets z) ≡ true → (k : ℕ) → numbered binds e s z ≡ Some k → (b : Bool) → binds z ≡ b → w.facts z k ≡ None
      fresh z q k i false b = he.fresh z (sym (ap (λ (b : Bool). b || G.sets z) b) ∙ q) k (sym (is_next binds e s z false b) ∙ i)
      fresh z q k i true b = no_fact (w.facts z k) refl
        where
          no_fact : (o : Option Value) → w.facts z k ≡ o → o ≡ None
          no_fact None p = refl
          no_fact (Some u) p = let o = h.facts z k u p in absurd (none_is_some (sym (ap (slice_get (s.store z)) (some_is (sym i ∙ is_next binds e s z true b)) ∙ get_past (s.store z)) ∙ o.there))

      shown : (z : Name) → (beside binds G).names z ≡ true → (b : Bool) → binds z ≡ b → SomeIndex (numbered binds e s z)
      shown z q true b = record { index = length (s.store z); is = is_next binds e s z true b }
      shown z q false b = let o = he.shown z (sym (ap (λ (b : Bool). b || G.names z) b) ∙ q) in record { index = o.index; is = is_next binds e s z false b ∙ o.is }

      d : Env
      d = numbered binds e s

      -- what stands behind a name that is not bound anew is not bound anew either
      same_entry : (z : Name) (k : ℕ) → e z ≡ Some k → binds z ≡ false → (o : Option Name) → L.link z ≡ o → entry_of o e ≡ entry_of o d
      same_entry z k q b None l = refl
      same_entry z k q b (Some x) l = go (binds x) refl
        where
          go : (a : Bool) → binds x ≡ a → e x ≡ d x
          go false p = sym (is_next binds e s x false p)
          go true p = absurd (none_is_some (sym (he.hidden z (op.apart z x l p b)) ∙ q))

      at : (z : Name) → L.fixed z ≡ true → (k : ℕ) → d z ≡ Some k → (b : Bool) → binds z ≡ b → slice_get ((opened_world L binds d w).links z) k ≡ Some (entry_of (L.link z) d)
      at z f k q true b =
          ap (λ (os : List (Option ℕ)). slice_get os k) (opened_at L binds d w z true b)
          ∙ ap (slice_get (w.links z ++ entry_of (L.link z) d ∷ [])) (some_is (sym q ∙ is_next binds e s z true b) ∙ sym (h.sized z f))
          ∙ get_end (w.links z) (entry_of (L.link z) d)
      at z f k q false b =
          let p : e z ≡ Some k = sym (is_next binds e s z false b) ∙ q in
          ap (λ (os : List (Option ℕ)). slice_get os k) (opened_at L binds d w z false b) ∙ he.at z f k p ∙ ap Some (same_entry z k p b (L.link z) refl)

  -- its state
  pub scope_state : {mark : ℕ} → Proper L mark → (binds : Name → Bool) (w : World) (e : Env) (s : State) (cells : Scope) → FineState L w s → ((z : Name) → binds z ≡ true → e z ≡ Some (length (s.store z)))
      → NewCells L (opened_world L binds e w) e (opened_state binds cells s) binds cells → FineState L (opened_world L binds e w) (opened_state binds cells s)
  scope_state P binds w e s cells h next nc = record {
    sized = λ z f. sized z f (binds z) refl;
    fine = λ z k c v p q. fine z k c v p q (binds z) refl (cells z) refl;
    linked = λ y x l k c v p q. linked y x l k c v p q (binds y) refl (cells y) refl;
    known = λ y u l k c v p q. known y u l k c v p q (binds y) refl (cells y) refl;
    frozen = λ x f k c p. frozen x f k c p (binds x) refl (cells x) refl;
    facts = λ z k u e. let o = h.facts z k u e in record { steady = o.steady; cell = o.cell; there = more_cells (binds z) (s.store z) (cells z) k o.cell o.there; holds = o.holds };
    handed = λ k v e. fine_up L (opened_grown L binds _ w) v (h.handed k v e);
  }
    where
      w1 : World
      w1 = opened_world L binds e w

      s1 : State
      s1 = opened_state binds cells s

      sized : (z : Name) → L.fixed z ≡ true → (b : Bool) → binds z ≡ b → length (w1.links z) ≡ length (s1.store z)
      sized z f false b = ap length (opened_at L binds e w z false b) ∙ h.sized z f ∙ sym (ap length (store_at binds cells s z false b))
      sized z f true b =
          let n = nc.there z f b in
          ap length (opened_at L binds e w z true b) ∙ suc_length (w.links z) _ ∙ ap suc (h.sized z f) ∙ sym (suc_length (s.store z) n.cell) ∙ sym (ap length (store_at binds cells s z true b) ∙ ap (λ (o : Option Cell). length (with_cell o (s.store z))) n.is)

      old : (z : Name) (k : ℕ) (c : Cell) (v : Value) → slice_get (s.store z) k ≡ Some c → c.held ≡ Some v → Fine L w1 v
      old z k c v p q = fine_up L (opened_grown L binds e w) v (h.fine z k c v p q)

      fine : (z : Name) (k : ℕ) (c : Cell) (v : Value) → slice_get (s1.store z) k ≡ Some c → c.held ≡ Some v → (b : Bool) → binds z ≡ b → (o : Option Cell) → cells z ≡ o → Fine L w1 v
      fine z k c v p q false b o m = old z k c v (sym (ap (λ (cs : List Cell). slice_get cs k) (store_at binds cells s z false b)) ∙ p) q
      fine z k c v p q true b None m = old z k c v (sym (ap (λ (cs : List Cell). slice_get cs k) (store_at binds cells s z true b ∙ ap (λ (o : Option Cell). with_cell o (s.store z)) m)) ∙ p) q
      fine z k c v p q true b (Some d) m = go (longer (s.store z) d k c (sym (ap (λ (cs : List Cell). slice_get cs k) (store_at binds cells s z true b ∙ ap (λ (o : Option Cell). with_cell o (s.store z)) m)) ∙ p))
        where
          go : Longer (s.store z) d k c → Fine L w1 v
          go (before r) = old z k c v r q
          go (at_end i r) = nc.fine z b c v (m ∙ ap Some (sym r)) q

      known : (y : Name) (u : Value) → L.known y ≡ Some u → (k : ℕ) (c : Cell) (v : Value) → slice_get (s1.store y) k ≡ Some c → c.held ≡ Some v → (b : Bool) → binds y ≡ b → (o : Option Cell) → cells y ≡ o → v ≡ u
      known y u l k c v p q false b o m = h.known y u l k c v (sym (ap (λ (cs : List Cell). slice_get cs k) (store_at binds cells s y false b)) ∙ p) q
      known y u l k c v p q true b None m = h.known y u l k c v (sym (ap (λ (cs : List Cell). slice_get cs k) (store_at binds cells s y true b ∙ ap (λ (o : Option Cell). with_cell o (s.store y)) m)) ∙ p) q
      known y u l k c v p q true b (Some d) m = go (longer (s.store y) d k c (sym (ap (λ (cs : List Cell). slice_get cs k) (store_at binds cells s y true b ∙ ap (λ (o : Option Cell). with_cell o (s.store y)) m)) ∙ p))
        where
          go : Longer (s.store y) d k c → v ≡ u
          go (before r) = h.known y u l k c v r q
          go (at_end i r) = nc.known y u l b c v (m ∙ ap Some (sym r)) q

      frozen : (y : Name) → L.constant y ≡ true → (k : ℕ) (c : Cell) → slice_get (s1.store y) k ≡ Some c → (b : Bool) → binds y ≡ b → (o : Option Cell) → cells y ≡ o → c.writable ≡ false
      frozen y l k c p false b o m = h.frozen y l k c (sym (ap (λ (cs : List Cell). slice_get cs k) (store_at binds cells s y false b)) ∙ p)
      frozen y l k c p true b None m = h.frozen y l k c (sym (ap (λ (cs : List Cell). slice_get cs k) (store_at binds cells s y true b ∙ ap (λ (o : Option Cell). with_cell o (s.store y)) m)) ∙ p)
      frozen y l k c p true b (Some d) m = go (longer (s.store y) d k c (sym (ap (λ (cs : List Cell). slice_get cs k) (store_at binds cells s y true b ∙ ap (λ (o : Option Cell). with_cell o (s.store y)) m)) ∙ p))
        where
          go : Longer (s.store y) d k c → c.writable ≡ false
          go (before r) = h.frozen y l k c r
          go (at_end i r) = nc.frozen y l b c (m ∙ ap Some (sym r))

      still : (y x : Name) → L.link y ≡ Some x → (k : ℕ) (c : Cell) (v : Value) → slice_get (s.store y) k ≡ Some c → c.held ≡ Some v → Behind w1 s1 y x k v
      still y x l k c v p q =
          let o = h.linked y x l k c v p q in
          record { index = o.index; cell = o.cell; linked = (opened_grown L binds e w).more.at y k (Some o.index) o.linked; there = more_cells (binds x) (s.store x) (cells x) o.index o.cell o.there; holds = o.holds }

      linked : (y x : Name) → L.link y ≡ Some x → (k : ℕ) (c : Cell) (v : Value) → slice_get (s1.store y) k ≡ Some c → c.held ≡ Some v → (b : Bool) → binds y ≡ b → (o : Option Cell) → cells y ≡ o → Behind w1 s1 y x k v
      linked y x l k c v p q false b o m = still y x l k c v (sym (ap (λ (cs : List Cell). slice_get cs k) (store_at binds cells s y false b)) ∙ p) q
      linked y x l k c v p q true b None m = still y x l k c v (sym (ap (λ (cs : List Cell). slice_get cs k) (store_at binds cells s y true b ∙ ap (λ (o : Option Cell). with_cell o (s.store y)) m)) ∙ p) q
      linked y x l k c v p q true b (Some d) m = go (longer (s.store y) d k c (sym (ap (λ (cs : List Cell). slice_get cs k) (store_at binds cells s y true b ∙ ap (λ (o : Option Cell). with_cell o (s.store y)) m)) ∙ p))
        where
          go : Longer (s.store y) d k c → Behind w1 s1 y x k v
          go (before r) = still y x l k c v r q
          go (at_end i r) =
              let t = nc.linked y x l b c v (m ∙ ap Some (sym r)) q in
              record {
                index = t.index;
                cell = t.cell;
                linked =
                    ap (λ (os : List (Option ℕ)). slice_get os k) (opened_at L binds e w y true b)
                    ∙ ap (slice_get (w.links y ++ entry_of (L.link y) e ∷ [])) (i ∙ sym (h.sized y (P.linked_fixed y x l)))
                    ∙ get_end (w.links y) (entry_of (L.link y) e)
                    ∙ ap (λ (o : Option Name). Some (entry_of o e)) l
                    ∙ ap Some t.is_at;
                there = t.there;
                holds = t.holds;
              }

  -- an outcome of a scope, for what was there before
  pub closing : {F : Name → ℕ → Type 0} {A : Type 0} {R : World → A → Type 0} {w v : World} {s t : State} {o p : Outcome A} → Later L Nothing w s v t → ((x : Name) (k : ℕ) → F x k → slice_get (s.store x) k ≡ None) → Ends L F R v t o p → Ends L Nothing R w s o p
  closing {F} {A} {R} {w} {v} {s} {t} l q r = go r
    where
      back : {u : World} {r : State} → Later L F v t u r → Later L Nothing w s u r
      back {u} {r} m = record { worlds = grown_on l.worlds m.worlds; cells = λ x f k c e. at x f k c e (l.cells x f k c e) }
        where
          at : (x : Name) → L.fixed x ≡ true → (k : ℕ) (c : Cell) → slice_get (s.store x) k ≡ Some c → Stays Nothing x k c (t.store x) → Stays Nothing x k c (r.store x)
          at x f k c e (is_free a) = absurd a
          at x f k c e (stays p) = further (m.cells x f k c p)
            where
              further : Stays F x k c (r.store x) → Stays Nothing x k c (r.store x)
              further (stays a) = stays a
              further (is_free a) = absurd (none_is_some (sym (q x k a) ∙ e))

      go : {o p : Outcome A} → Ends L F R v t o p → Ends L Nothing R w s o p
      go (done m h r) = done (back m) h r
      go (jump m h r) = jump (back m) h r
      go (outside o) = outside o
      go (cut o) = cut o

  pub opened_later : (binds : Name → Bool) (w : World) (e : Env) (s : State) (cells : Scope) → Later L Nothing w s (opened_world L binds e w) (opened_state binds cells s)
  opened_later binds w e s cells = record { worlds = opened_grown L binds e w; cells = λ x f k c p. stays (more_cells (binds x) (s.store x) (cells x) k c p) }

  -- A scope sets no cell that was there before, whatever it sets of its own.
  pub in_scope_ends : {mark : ℕ} → Proper L mark → {A : Type 0} {R : World → A → Type 0} (G : Ground) (B binds : Name → Bool) (cells : Env → Scope) {body body' : Context → Run A} (w : World) (c : Context) (s : State) → FineContext L w G c → FineState L w s → Opens L G binds → ((x : Name) → B x ≡ true → (binds x ≡ true) × (L.fixed x ≡ true))
      → ((e : Env) (x : Name) → B x ≡ true → EmptyCell (cells e x))
      → ((v : World) (e : Env) → Grown w v → FineEnv L v (beside binds G) e → ((z : Name) → binds z ≡ true → e z ≡ Some (length (s.store z))) → ((z : Name) → binds z ≡ false → e z ≡ c.env z) → NewCells L v e (opened_state binds (cells e) s) binds (cells e))
      → ((v : World) (d : Context) (s : State) → Grown w v → FineContext L v (beside binds G) d → Pend L B d.env s → FineState L v s → Ends L (Own B d.env) R v s (body d s) (body' d s))
      → Ends L Nothing R w s (in_scope binds cells body c s) (in_scope binds cells body' c s)
  unfolding in_scope
  in_scope_ends P {A} {R} G B binds cells {body} {body'} w c s hc h op hb he hn hbody =
      closing (opened_later binds w e s (cells e)) past
      (hbody v (record c { env = e }) t (opened_grown L binds e w) (record { env = env; this = fine_up L (opened_grown L binds e w) c.this hc.this }) pend (scope_state P binds w e s (cells e) h next (hn v e (opened_grown L binds e w) env next others)))
    where
      e : Env
      e = numbered binds c.env s

      v : World
      v = opened_world L binds e w

      t : State
      t = opened_state binds (cells e) s

      env : FineEnv L v (beside binds G) e
      env = scope_env binds G w c.env s hc.env h op

      next : (z : Name) → binds z ≡ true → e z ≡ Some (length (s.store z))
      next z b = is_next binds c.env s z true b

      others : (z : Name) → binds z ≡ false → e z ≡ c.env z
      others z b = is_next binds c.env s z false b

      past : (x : Name) (k : ℕ) → Own B e x k → slice_get (s.store x) k ≡ None
      past x k q = ap (slice_get (s.store x)) (some_is (sym q.1 ∙ next x (hb x q.0).0)) ∙ get_past (s.store x)

      pend : Pend L B e t
      pend = record { at = λ x b. ((hb x b).1, waits x b) }
        where
          waits : (x : Name) → B x ≡ true → Waits e t x
          waits x b =
              let p = hb x b in
              let m = he e x b in
              record {
                index = length (s.store x);
                cell = m.cell;
                is_at = next x p.0;
                there = ap (λ (cs : List Cell). slice_get cs (length (s.store x))) (store_at binds (cells e) s x true p.0 ∙ ap (λ (o : Option Cell). with_cell o (s.store x)) m.is) ∙ get_end (s.store x) m.cell;
                empty = m.empty;
              }

  pub in_scope_safe : {mark : ℕ} → Proper L mark → {A : Type 0} {R : World → A → Type 0} (G : Ground) (B binds : Name → Bool) (cells : Env → Scope) {body body' : Context → Run A} (w : World) (c : Context) → FineContext L w G c → Opens L G binds → ((x : Name) → B x ≡ true → (binds x ≡ true) × (L.fixed x ≡ true))
      → ((e : Env) (x : Name) → B x ≡ true → EmptyCell (cells e x))
      → ((s : State) → FineState L w s → (v : World) (e : Env) → Grown w v → FineEnv L v (beside binds G) e → ((z : Name) → binds z ≡ true → e z ≡ Some (length (s.store z))) → ((z : Name) → binds z ≡ false → e z ≡ c.env z) → NewCells L v e (opened_state binds (cells e) s) binds (cells e))
      → ((v : World) (d : Context) (s : State) → Grown w v → FineContext L v (beside binds G) d → Pend L B d.env s → FineState L v s → Ends L (Own B d.env) R v s (body d s) (body' d s))
      → Runs L Nothing R w (in_scope binds cells body c) (in_scope binds cells body' c)
  in_scope_safe P G B binds cells w c hc op hb he hn hbody s h = in_scope_ends P G B binds cells w c s hc h op hb he (hn s h) hbody

  -- what waits goes on to wait where its cell stays
  pub pend_later : {B D : Name → Bool} {e : Env} {w v : World} {s t : State} → Pend L D e s → ((x : Name) → B x ≡ true → D x ≡ true → ⊥) → Later L (Own B e) w s v t → Pend L D e t
  pend_later {B} {D} {e} {s = s} {t} p q l = record { at = λ x d. let a = p.at x d in (a.0, go x d a.1 (l.cells x a.0 a.1.index a.1.cell a.1.there)) }
    where
      go : (x : Name) → D x ≡ true → (a : Waits e s x) → Stays (Own B e) x a.index a.cell (t.store x) → Waits e t x
      go x d a (stays r) = record { index = a.index; cell = a.cell; is_at = a.is_at; there = r; empty = a.empty }
      go x d a (is_free r) = absurd (q x r.0 d)

  pub pend_calm : {D : Name → Bool} {e : Env} {w v : World} {s t : State} → Pend L D e s → Later L Nothing w s v t → Pend L D e t
  pend_calm {D} {e} {s = s} {t} p l = record { at = λ x d. let a = p.at x d in (a.0, go x a.1 (l.cells x a.0 a.1.index a.1.cell a.1.there)) }
    where
      go : (x : Name) (a : Waits e s x) → Stays Nothing x a.index a.cell (t.store x) → Waits e t x
      go x a (stays r) = record { index = a.index; cell = a.cell; is_at = a.is_at; there = r; empty = a.empty }
      go x a (is_free r) = absurd r

  pub pend_fewer : {B D : Name → Bool} {e : Env} {s : State} → ((x : Name) → D x ≡ true → B x ≡ true) → Pend L B e s → Pend L D e s
  pend_fewer q p = record { at = λ x d. p.at x (q x d) }
