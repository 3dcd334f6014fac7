-- Declarations of names that stand for names, switch, try and `for`.
use Rattle.std.proofs.Common.{◌≡◌, ℕ, Bool, true, false, ◌||◌, List, [], ◌∷◌, Option, Some, None, refl, sym, ap, subst, length, slice_get, cond, ◌∙◌}
use Rattle.std.proofs.lemmas.Bool.{false≢true}
use Rattle.swc_ast.specs.declared.VarDeclKind.{VarDeclKind}
use Rattle.swc_ast.specs.declared.VarDeclKind.TheVariants.{Var, Let, Const}
use Rattle.swc_ast.specs.Tree.{Name, VarDecl, Tree, node, Forest, ε, ◌⊳◌}
use Rattle.swc_ast.specs.Value.{Env, Value, Cell, State, Jump, Broken, Continued, Returned, Thrown, Outcome, Done, Jumps, and_then, Context, Meaning}
use Rattle.swc_ast.specs.Operators.{prim, strict_equal}
use Rattle.swc_ast.specs.Scope.{Declared, is_found, list_binds, case_statements}
use Rattle.swc_ast.specs.Meaning.{◌>>=◌, in_core, with_cell, cell_of, copied_cell, copies, Case, bodies_from, default_bodies, chosen, selected, switch, catch_cell, is_param, handled, resume, finally, try_catch, declare, copied_names, for_loop, turns, run_all, initialise, read, read_host, read_bound, held_value, cell_at, is_unresolved, plain}
use Rattle.meaning_proofs.proofs.Names.{same_name_eq}
use Rattle.link_proofs.specs.Links.{Links, Ground, Proper, Plain, Functions, Opens, OpensList, Splits, beside, handler_names, Unlinked, UnlinkedHandler}
use Rattle.link_proofs.proofs.State.{World, Grown, Fine, fine_up, SomeIndex, entry_of, FineContext, context_up, FineJump, Behind, FineState, later_freer, Nothing, Ends, done, jump, outside, cut, Runs, Safe, after, freer, gives_safe, bind, then_ends}
use Rattle.link_proofs.proofs.Stores.{get_end}
use Rattle.link_proofs.proofs.Scopes.{Own, Pend, Reaches, SomeCell, NewCells, opened_state, in_scope_ends, in_scope_safe, pend_calm}
use Rattle.link_proofs.proofs.Parts.{Around, plain_fine, turns_safe, at_break_ends}
use Rattle.link_proofs.proofs.Lists.{Sets, sets_more, sets_nil, sets_cons, same_place, first_safe, no_value, list_scope_safe, list_safe}

none_is_some : {A : Type 0} {a : A} → None ≡ Some a → ⊥
none_is_some e = cc

same_some : {A : Type 0} {a b : A} → Some a ≡ Some b → a ≡ b
same_some e = cc

-- the name is no host's
pub bound_read : (mark : ℕ) (x : Name) (c : Context) (s : State) → is_unresolved mark x ≡ false → read mark x c s ≡ read_bound x (c.env x) s
unfolding read
bound_read mark x c s e = ap (λ (b : Bool). cond b (read_host x.text) (read_bound x (c.env x)) s) e

-- the names of which each turn has its own are names of the head
copied_in_head : (i : Tree) (x : Name) → is_found x (copied_names i) ≡ true → list_binds (i ⊳ ε) x ≡ true
copied_in_head (node (VarDecl Let) ss ds) x e = e
copied_in_head (node _ ss ds) x e = absurd (false≢true e)

-- an own name is plain
pub plain_param : {L : Links} (o : Option Name) → Unlinked L o → (y : Name) → is_param o y ≡ true → Plain L y
plain_param None q y b = absurd (false≢true b)
plain_param {L} (Some z) q y b = subst (Plain L) (same_name_eq z y b) q

module _ {L : Links} {mark : ℕ} (P : Proper L mark) where
  -- a name takes the value of the name that it stands for
  linked_first : {G : Ground} {B : Name → Bool} (y x : Name) → L.link y ≡ Some x → L.known y ≡ None → B y ≡ true → (w : World) (c : Context) → FineContext L w G c → (s : State) → Pend L B c.env s → FineState L w s
      → Ends L (Own B c.env) (Fine L) w s (and_then (read mark x c s) (λ v. initialise y v c)) (and_then (read mark x c s) (λ v. initialise y v c))
  unfolding and_then
  linked_first {G} {B} y x l u b w c hc s p h =
      subst (λ (o : Outcome Value). Ends L (Own B c.env) (Fine L) w s (and_then o (λ v. initialise y v c)) (and_then o (λ v. initialise y v c))) (sym (bound_read mark x c s (P.target_bound y x l))) (at_index (c.env x) refl)
    where
      at_value : (j : ℕ) → c.env x ≡ Some j → (d : Cell) → slice_get (s.store x) j ≡ Some d → (o : Option Value) → d.held ≡ o → Ends L (Own B c.env) (Fine L) w s (and_then (in_core o s) (λ v. initialise y v c)) (and_then (in_core o s) (λ v. initialise y v c))
      at_value j e d t None q = outside _
      at_value j e d t (Some v) q = first_safe P w y v c hc (h.fine x j d v t q) b s p h behind (no_value P y v u)
        where
          behind : (k : ℕ) → c.env y ≡ Some k → (z : Name) → L.link y ≡ Some z → Behind w s y z k v
          behind k i z m =
              subst (λ (z : Name). Behind w s y z k v) (same_some (sym l ∙ m))
              (record { index = j; cell = d; linked = hc.env.at y (P.linked_fixed y x l) k i ∙ ap (λ (o : Option Name). Some (entry_of o c.env)) l ∙ ap Some e; there = t; holds = q })

      at_cell : (j : ℕ) → c.env x ≡ Some j → (o : Option Cell) → slice_get (s.store x) j ≡ o → Ends L (Own B c.env) (Fine L) w s (and_then (held_value o s) (λ v. initialise y v c)) (and_then (held_value o s) (λ v. initialise y v c))
      at_cell j e None t = outside _
      at_cell j e (Some d) t = at_value j e d t d.held refl

      at_index : (o : Option ℕ) → c.env x ≡ o → Ends L (Own B c.env) (Fine L) w s (and_then (read_bound x o s) (λ v. initialise y v c)) (and_then (read_bound x o s) (λ v. initialise y v c))
      at_index None e = outside _
      at_index (Some j) e = at_cell j e (cell_at s x j) refl

  pub declare_linked : {G : Ground} {B : Name → Bool} (k : VarDeclKind) (y x : Name) → L.link y ≡ Some x → L.known y ≡ None → B y ≡ true → Sets L G B (declare k y (read mark x ∷ [])) (declare k y (read mark x ∷ []))
  unfolding declare
  declare_linked Var y x l u b = record { at = λ w c hc s p h. linked_first y x l u b w c hc s p h }
  declare_linked Let y x l u b = record { at = λ w c hc s p h. linked_first y x l u b w c hc s p h }
  declare_linked Const y x l u b = record { at = λ w c hc s p h. linked_first y x l u b w c hc s p h }

  -- new cells that hold what the old ones do
  copies_new : {G : Ground} (binds : Name → Bool) (w : World) (c : Context) → FineContext L w G c → ((x : Name) → binds x ≡ true → G.names x ≡ true) → (s : State) → FineState L w s → (v : World) (e : Env) → Grown w v
      → ((z : Name) → binds z ≡ true → e z ≡ Some (length (s.store z))) → ((z : Name) → binds z ≡ false → e z ≡ c.env z) → NewCells L v e (opened_state binds (copied_cell s c.env) s) binds (copied_cell s c.env)
  copies_new {G} binds w c hc q s h v e g next others = record {
    there = λ x f b. there x f (hc.env.shown x (q x b));
    fine = λ x b d u p o. fine x (c.env x) d u p o;
    linked = λ y x l b d u p o. linked y x l (c.env y) refl d u p o;
    known = λ y a l b d u p o. known y a l (c.env y) d u p o;
    frozen = λ x f b d p. frozen x f (c.env x) d p;
  }
    where
      there : (x : Name) → L.fixed x ≡ true → SomeIndex (c.env x) → SomeCell (copied_cell s c.env x)
      there x f i =
          let p = same_place (w.links x) (s.store x) i.index _ (h.sized x f) (hc.env.at x f i.index i.is) in
          record { cell = p.0; is = ap (cell_of s x) i.is ∙ p.1 }

      fine : (x : Name) (o : Option ℕ) (d : Cell) (u : Value) → cell_of s x o ≡ Some d → d.held ≡ Some u → Fine L v u
      fine x None d u p r = absurd (none_is_some p)
      fine x (Some k) d u p r = fine_up L g u (h.fine x k d u p r)

      known : (y : Name) (a : Value) → L.known y ≡ Some a → (o : Option ℕ) (d : Cell) (u : Value) → cell_of s y o ≡ Some d → d.held ≡ Some u → u ≡ a
      known y a l None d u p r = absurd (none_is_some p)
      known y a l (Some k) d u p r = h.known y a l k d u p r

      frozen : (x : Name) → L.constant x ≡ true → (o : Option ℕ) (d : Cell) → cell_of s x o ≡ Some d → d.writable ≡ false
      frozen x f None d p = absurd (none_is_some p)
      frozen x f (Some k) d p = h.frozen x f k d p

      place : (x : Name) (d : Cell) (u : Value) (j : ℕ) → slice_get (s.store x) j ≡ Some d → d.held ≡ Some u → c.env x ≡ Some j → (b : Bool) → binds x ≡ b → Reaches (opened_state binds (copied_cell s c.env) s) (e x) x u
      place x d u j t r i true b = record {
        index = length (s.store x);
        cell = d;
        is_at = next x b;
        there =
            ap (λ (b : Bool). slice_get (cond b (with_cell (copied_cell s c.env x) (s.store x)) (s.store x)) (length (s.store x))) b
            ∙ ap (λ (o : Option Cell). slice_get (with_cell o (s.store x)) (length (s.store x))) (ap (cell_of s x) i ∙ t)
            ∙ get_end (s.store x) d;
        holds = r;
      }
      place x d u j t r i false b = record {
        index = j;
        cell = d;
        is_at = others x b ∙ i;
        there = ap (λ (b : Bool). slice_get (cond b (with_cell (copied_cell s c.env x) (s.store x)) (s.store x)) j) b ∙ t;
        holds = r;
      }

      linked : (y x : Name) → L.link y ≡ Some x → (o : Option ℕ) → c.env y ≡ o → (d : Cell) (u : Value) → cell_of s y o ≡ Some d → d.held ≡ Some u → Reaches (opened_state binds (copied_cell s c.env) s) (e x) x u
      linked y x l None i d u p r = absurd (none_is_some p)
      linked y x l (Some k) i d u p r =
          let b = h.linked y x l k d u p r in
          place x b.cell u b.index b.there b.holds (sym (ap (λ (o : Option Name). entry_of o c.env) l) ∙ same_some (sym (hc.env.at y (P.linked_fixed y x l) k i) ∙ b.linked)) (binds x) refl

  narrow : {G : Ground} {binds : Name → Bool} {w : World} {c : Context} → ((x : Name) → binds x ≡ true → G.names x ≡ true) → FineContext L w (beside binds G) c → FineContext L w G c
  narrow {G} {binds} q h = record { env = record { hidden = λ z p. h.env.hidden z (off z p (binds z) refl); shown = λ z p. h.env.shown z (on (binds z) (G.names z) p); at = h.env.at; settled = h.env.settled; fresh = λ z p k i. h.env.fresh z (on (binds z) (G.sets z) p) k i }; this = h.this }
    where
      off : (z : Name) → G.names z ≡ false → (b : Bool) → binds z ≡ b → (binds z || G.names z) ≡ false
      off z p true b = absurd (false≢true (sym p ∙ q z b))
      off z p false b = ap (λ (b : Bool). b || G.names z) b ∙ p

      on : (a b : Bool) → b ≡ true → (a || b) ≡ true
      on true b e = refl
      on false b e = e

  pub copies_safe : {G : Ground} (names : List Declared) → Opens L G (λ x. is_found x names) → ((x : Name) → is_found x names ≡ true → G.names x ≡ true) → (w : World) (c : Context) → FineContext L w G c → Runs L Nothing (Around L G) w (copies names c) (copies names c)
  unfolding copies
  copies_safe {G} names op q w c hc s h =
      in_scope_ends P G (λ x. false) (λ x. is_found x names) (λ e x. copied_cell s c.env x) w c s hc h op (λ x b. absurd (false≢true b)) (λ e x b. absurd (false≢true b))
      (λ v e g he next others. copies_new (λ x. is_found x names) w c hc q s h v e g next others) (λ v d r g hd p k. gives_safe d (narrow q hd) r k)

  -- `for`
  pub for_safe : {G : Ground} {B : Name → Bool} (n : ℕ) (i : Tree) → OpensList L G B (i ⊳ ε) → Functions L (beside (list_binds (i ⊳ ε)) G) (i ⊳ ε) → Opens L (beside (list_binds (i ⊳ ε)) G) (λ x. is_found x (copied_names i)) → (a a' t t' u u' b b' : Meaning)
      → Sets L (beside (list_binds (i ⊳ ε)) G) B a a' → Safe L (beside (list_binds (i ⊳ ε)) G) t t' → Safe L (beside (list_binds (i ⊳ ε)) G) u u' → Safe L (beside (list_binds (i ⊳ ε)) G) b b' → Safe L G (for_loop n i a t u b) (for_loop n i a' t' u' b')
  unfolding for_loop
  for_safe {G} {B} n i op hf oc a a' t t' u u' b b' ha ht hu hb = record {
    at = λ w c hc. list_scope_safe P op hf w c hc (λ v d s hd p h. begin v d s hd p h);
  }
    where
      next : (w : World) (c : Context) → FineContext L w (beside (list_binds (i ⊳ ε)) G) c → Runs L Nothing (Around L (beside (list_binds (i ⊳ ε)) G)) w (copies (copied_names i) c) (copies (copied_names i) c)
      next w c hc = copies_safe (copied_names i) oc (λ x e. ap (λ (b : Bool). b || G.names x) (copied_in_head i x e)) w c hc

      begin : (v : World) (d : Context) (s : State) → FineContext L v (beside (list_binds (i ⊳ ε)) G) d → Pend L B d.env s → FineState L v s
          → Ends L (Own B d.env) (Fine L) v s (and_then (a (plain d) s) (λ z. copies (copied_names i) d >>= λ e. turns n t b (copies (copied_names i)) u e)) (and_then (a' (plain d) s) (λ z. copies (copied_names i) d >>= λ e. turns n t' b' (copies (copied_names i)) u' e))
      begin v d s hd p h =
          then_ends (ha.at v (plain d) (plain_fine P hd) s p h) (λ w g z r q k.
          freer (λ x k e. absurd e) (bind (next w d (context_up g hd)) (λ x o e he. turns_safe P n ht hb next hu x e he) q k))

  -- try

  none_born : (o : Option Name) (v : Value) → Unlinked L o → (w : World) (e : Env) (s : State) → Fine L w v → NewCells L w e s (is_param o) (catch_cell v)
  none_born o v q w e s r = record {
    there = λ x f b. record { cell = record { writable = true; held = Some v }; is = refl };
    fine = λ x b c u p i. subst (Fine L w) (same_some (ap (λ (c : Cell). c.held) (same_some p) ∙ i)) r;
    linked = λ y x l b c u p i. absurd (none_is_some (sym (plain_param o q y b).unlinked ∙ l));
    known = λ y a l b c u p i. absurd (none_is_some (sym (plain_param o q y b).unknown ∙ l));
    frozen = λ x f b c p. absurd (false≢true (sym (plain_param o q x b).no_constant ∙ f));
  }

  pub handled_ends : {G : Ground} (p : Option (Option Name)) → Opens L G (handler_names p) → UnlinkedHandler L p → {m n : Meaning} → Safe L (beside (handler_names p) G) m n → (w : World) (c : Context) → FineContext L w G c → {s : State} {o q : Outcome Value} → Ends L Nothing (Fine L) w s o q
      → Ends L Nothing (Fine L) w s (handled p m c o) (handled p n c q)
  handled_ends None op u hm w c hc h = h
  handled_ends {G} (Some x) op u hm w c hc (jump {j = Thrown v} {v = a} l h r) =
      after l (in_scope_safe P G (λ x. false) (is_param x) (λ e. catch_cell v) a c (context_up l.worlds hc) op (λ x b. absurd (false≢true b)) (λ e x b. absurd (false≢true b))
      (λ s h b e g he next others. none_born x v u b e _ (fine_up L g v r)) (λ b d s g hd p k. freer (λ x k e. absurd e) (hm.at b d hd s k)) _ h)
  handled_ends (Some x) op u hm w c hc (jump {j = Broken k} l h r) = jump l h r
  handled_ends (Some x) op u hm w c hc (jump {j = Continued k} l h r) = jump l h r
  handled_ends (Some x) op u hm w c hc (jump {j = Returned v} l h r) = jump l h r
  handled_ends (Some x) op u hm w c hc (done l h r) = done l h r
  handled_ends (Some x) op u hm w c hc (outside o) = outside _
  handled_ends (Some x) op u hm w c hc (cut o) = cut _

  jump_up : {v w : World} → Grown v w → (j : Jump) → FineJump L v j → FineJump L w j
  jump_up g (Returned v) r = fine_up L g v r
  jump_up g (Thrown v) r = fine_up L g v r
  jump_up g (Broken k) r = tt
  jump_up g (Continued k) r = tt

  finally_ends : {G : Ground} {m n : Meaning} → Safe L G m n → (w : World) (c : Context) → FineContext L w G c → {s : State} {o q : Outcome Value} → Ends L Nothing (Fine L) w s o q → Ends L Nothing (Fine L) w s (finally m c o) (finally n c q)
  finally_ends {G} {m} {n} hm w c hc {s} (done {a} {v} {t} l h r) = after l (go (hm.at v c (context_up l.worlds hc) t h))
    where
      go : {o q : Outcome Value} → Ends L Nothing (Fine L) v t o q → Ends L Nothing (Fine L) v t (resume (Done a t) o) (resume (Done a t) q)
      go (done k i p) = done k i (fine_up L k.worlds a r)
      go (jump k i p) = jump k i p
      go (outside o) = outside _
      go (cut o) = cut _
  finally_ends {G} {m} {n} hm w c hc {s} (jump {j} {v} {t} l h r) = after l (go (hm.at v c (context_up l.worlds hc) t h))
    where
      go : {o q : Outcome Value} → Ends L Nothing (Fine L) v t o q → Ends L Nothing (Fine L) v t (resume (Jumps j t) o) (resume (Jumps j t) q)
      go (done k i p) = jump k i (jump_up k.worlds j r)
      go (jump k i p) = jump k i p
      go (outside o) = outside _
      go (cut o) = cut _
  finally_ends hm w c hc (outside o) = outside _
  finally_ends hm w c hc (cut o) = cut _

  pub try_safe : {G : Ground} (p : Option (Option Name)) → Opens L G (handler_names p) → UnlinkedHandler L p → (b b' h h' f f' : Meaning) → Safe L G b b' → Safe L (beside (handler_names p) G) h h' → Safe L G f f' → Safe L G (try_catch p b h f) (try_catch p b' h' f')
  unfolding try_catch
  try_safe p op u b b' h h' f f' hb hh hf = record { at = λ w c hc s k. finally_ends hf w c hc (handled_ends p op u hh w c hc (hb.at w c hc s k)) }

  -- switch

  -- cases of a switch, whose bodies set the names that wait
  pub data CasesMean (G : Ground) : (Name → Bool) → List Case → List Case → Type 0 where
    no_case : {B : Name → Bool} → CasesMean G B [] []
    a_default : {B : Name → Bool} {m n : Meaning} {ks ls : List Case} (B₁ B₂ : Name → Bool) → Splits B B₁ B₂ → Sets L G B₁ m n → CasesMean G B₂ ks ls → CasesMean G B ((None, m) ∷ ks) ((None, n) ∷ ls)
    a_test : {B : Name → Bool} {t u m n : Meaning} {ks ls : List Case} (B₁ B₂ : Name → Bool) → Splits B B₁ B₂ → Safe L G t u → Sets L G B₁ m n → CasesMean G B₂ ks ls → CasesMean G B ((Some t, m) ∷ ks) ((Some u, n) ∷ ls)

  module _ {G : Ground} where
    bodies_sets : {B : Name → Bool} {ks ls : List Case} → CasesMean G B ks ls → Sets L G B (run_all (bodies_from ks)) (run_all (bodies_from ls))
    bodies_sets no_case = sets_nil
    bodies_sets (a_default B₁ B₂ q h hs) = sets_cons _ _ q h (bodies_sets hs)
    bodies_sets (a_test B₁ B₂ q t h hs) = sets_cons _ _ q h (bodies_sets hs)

    default_sets : {B : Name → Bool} {ks ls : List Case} → CasesMean G B ks ls → Sets L G B (run_all (default_bodies ks)) (run_all (default_bodies ls))
    default_sets no_case = sets_nil
    default_sets (a_default B₁ B₂ q h hs) = sets_cons _ _ q h (bodies_sets hs)
    default_sets (a_test B₁ B₂ q t h hs) = sets_more q.second (default_sets hs)

    -- what a discriminant selects, and then does
    selected_ends : {D B : Name → Bool} {ks ls : List Case} → CasesMean G D ks ls → ((x : Name) → D x ≡ true → B x ≡ true) → (xs ys : List Meaning) → Sets L G B (run_all xs) (run_all ys) → (v : Value) (w : World) (c : Context) → FineContext L w G c → (s : State) → Pend L B c.env s → FineState L w s
        → Ends L (Own B c.env) (Fine L) w s (and_then (selected ks xs v c s) (λ bs. run_all bs c)) (and_then (selected ls ys v c s) (λ bs. run_all bs c))
    unfolding selected and_then
    selected_ends no_case q xs ys hx v w c hc s p h = hx.at w c hc s p h
    selected_ends (a_default B₁ B₂ o g hs) q xs ys hx v w c hc s p h = selected_ends hs (λ x e. q x (o.second x e)) xs ys hx v w c hc s p h
    selected_ends {D} {B} (a_test {t = m} {u = n} {m = b} {n = b'} {ks} {ls} B₁ B₂ o ht g hs) q xs ys hx v w c hc s p h = test (λ a r g k i. selected_ends hs (λ x e. q x (o.second x e)) xs ys hx v a c (context_up g hc) r k i) (ht.at w c hc s h)
      where
        choose : ((a : World) (r : State) → Grown w a → Pend L B c.env r → FineState L a r → Ends L (Own B c.env) (Fine L) a r (and_then (selected ks xs v c r) (λ bs. run_all bs c)) (and_then (selected ls ys v c r) (λ bs. run_all bs c))) → (a : World) (r : State) → Grown w a → Pend L B c.env r → FineState L a r → (e : Option Bool)
            → Ends L (Own B c.env) (Fine L) a r (and_then (and_then (in_core e r) (λ same. chosen same (b ∷ bodies_from ks) (selected ks xs v c))) (λ bs. run_all bs c)) (and_then (and_then (in_core e r) (λ same. chosen same (b' ∷ bodies_from ls) (selected ls ys v c))) (λ bs. run_all bs c))
        choose rec a r g' p' k None = outside _
        choose rec a r g' p' k (Some true) = (sets_more q (sets_cons _ _ o g (bodies_sets hs))).at a c (context_up g' hc) r p' k
        choose rec a r g' p' k (Some false) = rec a r g' p' k

        test : ((a : World) (r : State) → Grown w a → Pend L B c.env r → FineState L a r → Ends L (Own B c.env) (Fine L) a r (and_then (selected ks xs v c r) (λ bs. run_all bs c)) (and_then (selected ls ys v c r) (λ bs. run_all bs c))) → {i j : Outcome Value} → Ends L Nothing (Fine L) w s i j
            → Ends L (Own B c.env) (Fine L) w s (and_then (and_then i (λ u. in_core (strict_equal (prim v) (prim u)) >>= λ same. chosen same (b ∷ bodies_from ks) (selected ks xs v c))) (λ bs. run_all bs c)) (and_then (and_then j (λ u. in_core (strict_equal (prim v) (prim u)) >>= λ same. chosen same (b' ∷ bodies_from ls) (selected ls ys v c))) (λ bs. run_all bs c))
        test rec (done {a = u} {v = a} {t = r} l k z) = after (later_freer (λ x k e. absurd e) l) (choose rec a r l.worlds (pend_calm p l) k (strict_equal (prim v) (prim u)))
        test rec (jump l k z) = jump (later_freer (λ x k e. absurd e) l) k z
        test rec (outside i) = outside _
        test rec (cut i) = cut _

  pub switch_safe : {G : Ground} {B : Name → Bool} (ts : Forest) → OpensList L G B (case_statements ts) → Functions L (beside (list_binds (case_statements ts)) G) (case_statements ts) → {ks ls : List Case} {m n : Meaning} → CasesMean (beside (list_binds (case_statements ts)) G) B ks ls → Safe L G m n
      → Safe L G (switch ts ks m) (switch ts ls n)
  unfolding switch
  switch_safe {G} {B} ts op hf {ks} {ls} hk hm = record {
    at = λ w c hc.
        bind (hm.at w c hc) (λ u g v r.
        (list_safe P op hf (record { at = λ a d hd s p h. at_break_ends P (selected_ends hk (λ x e. e) _ _ (default_sets hk) v a d hd s p h) })).at u c (context_up g hc));
  }
