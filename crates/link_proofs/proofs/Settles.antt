-- A variable that takes the value of a name holds it among the statements that follow.
use Rattle.std.proofs.Common.{◌≡◌, ℕ, zero, suc, Bool, true, false, not, ◌&&◌, ◌||◌, ◌==◌, List, [], ◌∷◌, Option, Some, None, refl, sym, ap, subst, slice_get, slice_set, cond, ◌∙◌, eqb-true, eq-eqb}
use Rattle.std.proofs.lemmas.Bool.{false≢true, and_parts, and_from}
use Rattle.swc_ast.specs.Tree.{Name, same_name}
use Rattle.swc_ast.specs.Value.{Value, Undefined, Cell, State, Jump, Broken, Continued, Returned, Thrown, Outcome, Done, Outside, Run, and_then, Context}
use Rattle.swc_ast.specs.Meaning.{cell_at, set_cell, initialise, initialise_bound, initialise_cell}
use Rattle.link_proofs.specs.Links.{Links, Put, nothing, a_name, a_value, put_name, Ground, settle, Proper}
use Rattle.meaning_proofs.proofs.Names.{same_name_eq, same_itself}
use Rattle.link_proofs.proofs.State.{World, Extends, Fine, fine_by, SettledBy, by_name, by_value, Settled, FineContext, FineJump, is_fixed, is_still, Holds, FineState, Later, later_freer, Nothing, Ends, done, jump, outside, cut, after}
use Rattle.link_proofs.proofs.Stores.{unfixed, unknown, set_state, set_later}

none_is_some : {A : Type 0} {a : A} → None ≡ Some a → ⊥
none_is_some e = cc

same_some : {A : Type 0} {a b : A} → Some a ≡ Some b → a ≡ b
same_some e = cc

set_same : {A : Type 0} (xs : List A) (k : ℕ) (a d : A) → slice_get xs k ≡ Some d → slice_get (slice_set xs k a) k ≡ Some a
set_same [] k a d e = cc
set_same (x ∷ xs) zero a d e = refl
set_same (x ∷ xs) (suc k) a d e = set_same xs k a d e

pub itself : (z : Name) (n : ℕ) → (same_name z z && (n == n)) ≡ true
itself z n = and_from (same_name z z) (n == n) (same_itself z) (eq-eqb n n refl)

-- where a name that was read stands
pub record Stands (s : State) (x : Name) (c : Context) (v : Value) : Type 0 where
  pub index : ℕ
  pub cell : Cell
  pub is_at : c.env x ≡ Some index
  pub there : slice_get (s.store x) index ≡ Some cell
  pub holds : cell.held ≡ Some v

-- two more facts
abbrev pub learned : World → Name → ℕ → Name → ℕ → Value → World
learned w y k x j u = record { links = w.links; facts = λ z i. cond (same_name y z && (k == i)) (Some u) (cond (same_name x z && (j == i)) (Some u) (w.facts z i)) }

pub learned_first : (w : World) (y : Name) (k : ℕ) (x : Name) (j : ℕ) (u : Value) → (learned w y k x j u).facts y k ≡ Some u
learned_first w y k x j u = ap (λ (b : Bool). cond b (Some u) (cond (same_name x y && (j == k)) (Some u) (w.facts y k))) (itself y k)

pub learned_second : (w : World) (y : Name) (k : ℕ) (x : Name) (j : ℕ) (u : Value) → (learned w y k x j u).facts x j ≡ Some u
learned_second w y k x j u = ap (λ (b : Bool). cond (same_name y x && (k == j)) (Some u) (cond b (Some u) (w.facts x j))) (itself x j) ∙ go (same_name y x && (k == j))
  where
    go : (b : Bool) → cond b (Some u) (Some u) ≡ Some u
    go true = refl
    go false = refl

module _ {L : Links} {mark : ℕ} (P : Proper L mark) where
  -- from here on the state, and where the two cells are
  module _ {G : Ground} (y x : Name) (still : (L.fixed y ≡ false) × (L.still y ≡ true)) (g : G.sets y ≡ true) (w : World) (c : Context) (hc : FineContext L w G c) (s : State) (h : FineState L w s) (j k : ℕ) (u : Value) (d : Cell) (ru : Fine L w u) (l : c.env y ≡ Some k) (p : slice_get (s.store y) k ≡ Some d)
      (agrees : (v : Value) → w.facts x j ≡ Some v → u ≡ v) (held_x : Holds L (set_cell s y k (record d { held = Some u })) x j u) (by : SettledBy (learned w y k x j u) c.env u (L.settles y)) where
    abbrev next : State
    next = set_cell s y k (record d { held = Some u })

    abbrev more : World
    more = learned w y k x j u

    -- what was known is known
    facts_kept : (z : Name) (n : ℕ) (v : Value) → w.facts z n ≡ Some v → more.facts z n ≡ Some v
    facts_kept z n v r = first (same_name y z && (k == n)) refl
      where
        second : (b : Bool) → (same_name x z && (j == n)) ≡ b → cond b (Some u) (w.facts z n) ≡ Some v
        second false m = r
        second true m =
            let o = and_parts (same_name x z) (j == n) m in
            ap Some (agrees v (ap (λ (z : Name). w.facts z j) (same_name_eq x z o.0) ∙ ap (w.facts z) (eqb-true j n o.1) ∙ r))

        first : (b : Bool) → (same_name y z && (k == n)) ≡ b → cond b (Some u) (cond (same_name x z && (j == n)) (Some u) (w.facts z n)) ≡ Some v
        first false m = second (same_name x z && (j == n)) refl
        first true m =
            let o = and_parts (same_name y z) (k == n) m in
            absurd (none_is_some (sym (hc.env.fresh y g k l) ∙ ap (λ (z : Name). w.facts z k) (same_name_eq y z o.0) ∙ ap (w.facts z) (eqb-true k n o.1) ∙ r))

    next_fine : FineState L w next
    next_fine = set_state P w s y k d u h p ru (unfixed still.0 (unknown (hc.env.fresh y g k l)))

    extends : Extends w more
    extends = record { at = λ z n o r. r }

    held_y : Holds L next y k u
    held_y = record { steady = is_still still.1; cell = record d { held = Some u }; there = ap (λ (b : Bool). slice_get (cond b (slice_set (s.store y) k (record d { held = Some u })) (s.store y)) k) (same_itself y) ∙ set_same (s.store y) k (record d { held = Some u }) d p; holds = refl }

    more_fine : FineState L more next
    more_fine =
        let f = next_fine in
        record {
          sized = f.sized;
          fine = λ z n b v r o. fine_by L extends v (f.fine z n b v r o);
          linked = λ z y m n b v r o. let k = f.linked z y m n b v r o in record { index = k.index; cell = k.cell; linked = k.linked; there = k.there; holds = k.holds };
          known = f.known;
          frozen = f.frozen;
          facts = λ z n v r. first z n v (same_name y z && (k == n)) refl r;
          handed = λ n v r. fine_by L extends v (f.handed n v r);
        }
      where
        second : (z : Name) (n : ℕ) (v : Value) (b : Bool) → (same_name x z && (j == n)) ≡ b → cond b (Some u) (w.facts z n) ≡ Some v → Holds L next z n v
        second z n v false m r = next_fine.facts z n v r
        second z n v true m r =
            let o = and_parts (same_name x z) (j == n) m in
            subst (λ (v : Value). Holds L next z n v) (same_some r) (subst (λ (n : ℕ). Holds L next z n u) (eqb-true j n o.1) (subst (λ (z : Name). Holds L next z j u) (same_name_eq x z o.0) held_x))

        first : (z : Name) (n : ℕ) (v : Value) (b : Bool) → (same_name y z && (k == n)) ≡ b → cond b (Some u) (cond (same_name x z && (j == n)) (Some u) (w.facts z n)) ≡ Some v → Holds L next z n v
        first z n v false m r = second z n v (same_name x z && (j == n)) refl r
        first z n v true m r =
            let o = and_parts (same_name y z) (k == n) m in
            subst (λ (v : Value). Holds L next z n v) (same_some r) (subst (λ (n : ℕ). Holds L next z n u) (eqb-true k n o.1) (subst (λ (z : Name). Holds L next z k u) (same_name_eq y z o.0) held_y))

    by_more : {r : Put} {v : Value} → SettledBy w c.env v r → SettledBy more c.env v r
    by_more (by_name {x = z} n m f) = by_name n m (facts_kept z n _ f)
    by_more by_value = by_value

    more_context : FineContext L more (settle y x G) c
    more_context = record {
      env = record { hidden = hc.env.hidden; shown = hc.env.shown; at = hc.env.at; settled = λ z r. settled z (same_name y z) refl r; fresh = λ z r n m. fresh z n m (same_name y z) refl (same_name x z) refl r };
      this = fine_by L extends c.this hc.this;
    }
      where
        settled : (z : Name) (b : Bool) → same_name y z ≡ b → (b || G.settled z) ≡ true → Settled L more c.env z
        settled z true m r = subst (Settled L more c.env) (same_name_eq y z m) (record { index = k; value = u; is_at = l; fact = learned_first w y k x j u; by = by })
        settled z false m r = let o = hc.env.settled z r in record { index = o.index; value = o.value; is_at = o.is_at; fact = facts_kept z o.index o.value o.fact; by = by_more o.by }

        fresh : (z : Name) (n : ℕ) → c.env z ≡ Some n → (b : Bool) → same_name y z ≡ b → (b' : Bool) → same_name x z ≡ b' → (not b && (not b' && G.sets z)) ≡ true → more.facts z n ≡ None
        fresh z n m true o b' o' r = absurd (false≢true r)
        fresh z n m false o true o' r = absurd (false≢true r)
        fresh z n m false o false o' r =
            ap (λ (b : Bool). cond (b && (k == n)) (Some u) (cond (same_name x z && (j == n)) (Some u) (w.facts z n))) o
            ∙ ap (λ (b : Bool). cond (b && (j == n)) (Some u) (w.facts z n)) o'
            ∙ hc.env.fresh z r n m

    -- behind the list what was learned is forgotten
    forgotten : World → World
    forgotten b = record { links = b.links; facts = w.facts }

    forget_later : {F : Name → ℕ → Type 0} (b : World) (f : State) → Later L F more next b f → Later L F w next (forgotten b) f
    unfolding forgotten
    forget_later b f m = record { worlds = record { more = record { at = λ z n o r. m.worlds.more.at z n o r }; same = λ z n. refl }; cells = m.cells }

    same_links : (b : World) → Extends b (forgotten b)
    unfolding forgotten
    same_links b = record { at = λ z n o r. r }

    forget_state : (b : World) (f : State) → ((z : Name) (n : ℕ) → more.facts z n ≡ b.facts z n) → FineState L b f → FineState L (forgotten b) f
    unfolding forgotten
    forget_state b f m o = record {
      sized = o.sized;
      fine = λ z n r v i p. fine_by L (record { at = λ z n o r. r }) v (o.fine z n r v i p);
      linked = λ z y m n r v i p. let k = o.linked z y m n r v i p in record { index = k.index; cell = k.cell; linked = k.linked; there = k.there; holds = k.holds };
      known = o.known;
      frozen = o.frozen;
      facts = λ z n v r. o.facts z n v (sym (m z n) ∙ facts_kept z n v r);
      handed = λ n v r. fine_by L (record { at = λ z n o r. r }) v (o.handed n v r);
    }

    forget_jump : (b : World) (v : Jump) → FineJump L b v → FineJump L (forgotten b) v
    forget_jump b (Returned v) r = fine_by L (same_links b) v r
    forget_jump b (Thrown v) r = fine_by L (same_links b) v r
    forget_jump b (Broken n) r = tt
    forget_jump b (Continued n) r = tt

    forget : {F : Name → ℕ → Type 0} {o r : Outcome Value} → Ends L F (Fine L) more next o r → Ends L F (Fine L) w next o r
    forget (done {a = v} {v = b} {t = f} m o r) = done (forget_later b f m) (forget_state b f (λ z n. m.worlds.same z n) o) (fine_by L (same_links b) v r)
    forget (jump {j = v} {v = b} {t = f} m o r) = jump (forget_later b f m) (forget_state b f (λ z n. m.worlds.same z n) o) (forget_jump b v r)
    forget (outside o) = outside o
    forget (cut o) = cut o

    next_later : Later L Nothing w s w next
    next_later = set_later P Nothing w s y k (record { writable = d.writable; held = Some u }) (λ f. absurd (false≢true (sym still.0 ∙ f)))

  -- what an initialiser of a settled variable gives
  pub data Inits (w : World) (c : Context) (s : State) (o p : Outcome Value) : Put → Type 0 where
    inits_left : {r : Put} → o ≡ Outside → Inits w c s o p r
    inits_name : (x : Name) (u : Value) → L.fixed x ≡ true → Fine L w u → Stands s x c u → o ≡ Done u s → p ≡ Done u s → Inits w c s o p (a_name x)
    inits_value : (u : Value) → Fine L w u → o ≡ Done u s → p ≡ Done u s → Inits w c s o p (a_value u)

  -- a variable takes its value, and then what follows
  settle_then : {G : Ground} {F : Name → ℕ → Type 0} (y x : Name) → (L.fixed y ≡ false) × (L.still y ≡ true) → G.sets y ≡ true → (w : World) (c : Context) → FineContext L w G c → (s : State) → FineState L w s → (u : Value) → Fine L w u → (j : ℕ → ℕ)
      → ((k : ℕ) → c.env y ≡ Some k → (v : Value) → w.facts x (j k) ≡ Some v → u ≡ v)
      → ((k : ℕ) (d : Cell) → c.env y ≡ Some k → slice_get (s.store y) k ≡ Some d → Holds L (set_cell s y k (record d { held = Some u })) x (j k) u)
      → ((k : ℕ) → c.env y ≡ Some k → SettledBy (learned w y k x (j k) u) c.env u (L.settles y))
      → (f g : Value → Run Value) → ((v : World) (t : State) → FineContext L v (settle y x G) c → FineState L v t → Later L Nothing w s w t → Ends L F (Fine L) v t (f Undefined t) (g Undefined t))
      → Ends L F (Fine L) w s (and_then (initialise y u c s) f) (and_then (initialise y u c s) g)
  unfolding and_then initialise
  settle_then {G} {F} y x still e w c hc s h u ru j agrees holds by f g hf = at_index (c.env y) refl
    where
      at_cell : (k : ℕ) → c.env y ≡ Some k → (o : Option Cell) → slice_get (s.store y) k ≡ o → Ends L F (Fine L) w s (and_then (initialise_cell y k u o s) f) (and_then (initialise_cell y k u o s) g)
      at_cell k l None p = outside _
      at_cell k l (Some d) p =
          after (later_freer (λ x k e. absurd e) (next_later y x still e w c hc s h (j k) k u d ru l p (agrees k l) (holds k d l p) (by k l)))
          (forget y x still e w c hc s h (j k) k u d ru l p (agrees k l) (holds k d l p) (by k l)
          (hf (learned w y k x (j k) u) (set_cell s y k (record d { held = Some u })) (more_context y x still e w c hc s h (j k) k u d ru l p (agrees k l) (holds k d l p) (by k l)) (more_fine y x still e w c hc s h (j k) k u d ru l p (agrees k l) (holds k d l p) (by k l))
          (next_later y x still e w c hc s h (j k) k u d ru l p (agrees k l) (holds k d l p) (by k l))))

      at_index : (o : Option ℕ) → c.env y ≡ o → Ends L F (Fine L) w s (and_then (initialise_bound y u o s) f) (and_then (initialise_bound y u o s) g)
      at_index None l = outside _
      at_index (Some k) l = at_cell k l (cell_at s y k) refl

  pub settle_ends : {G : Ground} {F : Name → ℕ → Type 0} (y : Name) (r : Put) → L.settles y ≡ r → G.sets y ≡ true → (w : World) (c : Context) → FineContext L w G c → (s : State) → FineState L w s → {o p : Outcome Value} → Inits w c s o p r
      → (f g : Value → Run Value) → ((v : World) (t : State) → FineContext L v (settle y (put_name y r) G) c → FineState L v t → Later L Nothing w s w t → Ends L F (Fine L) v t (f Undefined t) (g Undefined t))
      → Ends L F (Fine L) w s (and_then (and_then o (λ v. initialise y v c)) f) (and_then (and_then p (λ v. initialise y v c)) g)
  unfolding and_then
  settle_ends {F = F} y r e g w c hc s h {o} {p} (inits_left q) f k hf = subst (λ (o : Outcome Value). Ends L F (Fine L) w s (and_then (and_then o (λ v. initialise y v c)) f) (and_then (and_then p (λ v. initialise y v c)) k)) (sym q) (outside _)
  settle_ends {G} {F} y r e g w c hc s h {o} {p} (inits_name x u fx ru a q q') f k hf =
      subst (λ (o : Outcome Value). Ends L F (Fine L) w s (and_then (and_then o (λ v. initialise y v c)) f) (and_then (and_then p (λ v. initialise y v c)) k)) (sym q)
      (subst (λ (p : Outcome Value). Ends L F (Fine L) w s (and_then (initialise y u c s) f) (and_then (and_then p (λ v. initialise y v c)) k)) (sym q')
      (settle_then y x still g w c hc s h u ru (λ n. a.index) agrees holds (λ n l. subst (SettledBy (learned w y n x a.index u) c.env u) (sym e) (by_name a.index a.is_at (learned_second w y n x a.index u))) f k hf))
    where
      no_nothing : {x : Name} → a_name x ≡ nothing → ⊥
      no_nothing e = cc

      still : (L.fixed y ≡ false) × (L.still y ≡ true)
      still = P.settled_still y (λ n. no_nothing (sym e ∙ n))

      agrees : (n : ℕ) → c.env y ≡ Some n → (v : Value) → w.facts x a.index ≡ Some v → u ≡ v
      agrees n l v m = let b = h.facts x a.index v m in same_some (sym a.holds ∙ ap (λ (c : Cell). c.held) (same_some (sym a.there ∙ b.there)) ∙ b.holds)

      differ : (b : Bool) → same_name y x ≡ b → b ≡ false
      differ false m = refl
      differ true m = absurd (false≢true (sym still.0 ∙ ap L.fixed (same_name_eq y x m) ∙ fx))

      holds : (n : ℕ) (d : Cell) → c.env y ≡ Some n → slice_get (s.store y) n ≡ Some d → Holds L (set_cell s y n (record d { held = Some u })) x a.index u
      holds n d l m = record { steady = is_fixed fx; cell = a.cell; there = ap (λ (b : Bool). slice_get (cond b (slice_set (s.store x) n (record d { held = Some u })) (s.store x)) a.index) (differ (same_name y x) refl) ∙ a.there; holds = a.holds }
  settle_ends {G} {F} y r e g w c hc s h {o} {p} (inits_value u ru q q') f k hf =
      subst (λ (o : Outcome Value). Ends L F (Fine L) w s (and_then (and_then o (λ v. initialise y v c)) f) (and_then (and_then p (λ v. initialise y v c)) k)) (sym q)
      (subst (λ (p : Outcome Value). Ends L F (Fine L) w s (and_then (initialise y u c s) f) (and_then (and_then p (λ v. initialise y v c)) k)) (sym q')
      (settle_then y y still g w c hc s h u ru (λ n. n) (λ n l v m. absurd (none_is_some (sym (hc.env.fresh y g n l) ∙ m))) holds (λ n l. subst (SettledBy (learned w y n y n u) c.env u) (sym e) by_value) f k hf))
    where
      no_nothing : {v : Value} → a_value v ≡ nothing → ⊥
      no_nothing e = cc

      still : (L.fixed y ≡ false) × (L.still y ≡ true)
      still = P.settled_still y (λ n. no_nothing (sym e ∙ n))

      holds : (n : ℕ) (d : Cell) → c.env y ≡ Some n → slice_get (s.store y) n ≡ Some d → Holds L (set_cell s y n (record d { held = Some u })) y n u
      holds n d l m = record { steady = is_still still.1; cell = record d { held = Some u }; there = ap (λ (b : Bool). slice_get (cond b (slice_set (s.store y) n (record d { held = Some u })) (s.store y)) n) (same_itself y) ∙ set_same (s.store y) n (record d { held = Some u }) d m; holds = refl }
