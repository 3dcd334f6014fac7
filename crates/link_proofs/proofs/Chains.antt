-- A declaration, declarator by declarator, and the items behind it.
use Rattle.std.proofs.Common.{◌≡◌, ℕ, Bool, true, false, List, [], ◌∷◌, Option, Some, None, refl, sym, ap, subst, slice_get, ◌∙◌}
use Rattle.swc_ast.specs.Tree.{Name, NumLit, StrLit, BoolLit, NullLit, Tree}
use Rattle.swc_ast.specs.Value.{Value, Null, Truth, Num, Text, Cell, State, Outcome, Done, Run, and_then, Context, Meaning}
use Rattle.swc_ast.specs.Meaning.{gives, in_core, read, read_bound, held_value, cell_at, initialise, run_all, Caller, act, eval, evals, is_unresolved}
use Rattle.link_proofs.specs.Links.{Links, Ground, Put, nothing, a_name, a_value, put_name, settle, put_at, through, Init, init_name, init_copy, init_known, init_literal, Splits, Proper, linked_act, linked_eval, linked_evals}
use Rattle.meaning_proofs.proofs.Laws.{and_then_assoc}
use Rattle.link_proofs.proofs.State.{World, Fine, FineContext, context_up, FineState, later_freer, Ends, done, jump, outside, cut, after, freer}
use Rattle.link_proofs.proofs.Scopes.{Own, Pend, pend_later, pend_calm, pend_fewer}
use Rattle.link_proofs.proofs.Lists.{Sets}
use Rattle.link_proofs.proofs.Settles.{Inits, inits_left, inits_name, inits_value, settle_ends}
use Rattle.link_proofs.proofs.Fors.{bound_read}
use Rattle.link_proofs.proofs.Acts.{LinkedRead, same_read, no_read, named_read, valued_read, put_is, put_value_is, puts_none}
use Rattle.link_proofs.proofs.Copies.{stands}

some_same : {A : Type 0} {a b : A} → Some a ≡ Some b → a ≡ b
some_same e = cc

none_is_some : {A : Type 0} {a : A} → None ≡ Some a → ⊥
none_is_some e = cc

-- What declarators do, and then items.
pub record ChainSets (L : Links) (G : Ground) (B : Name → Bool) (ds es ms ns : List Meaning) : Type 0 where
  pub at : (w : World) (c : Context) → FineContext L w G c → (s : State) → Pend L B c.env s → FineState L w s → Ends L (Own B c.env) (Fine L) w s (and_then (run_all ds c s) (λ v. run_all ms c)) (and_then (run_all es c s) (λ v. run_all ns c))

module _ {L : Links} {mark : ℕ} (P : Proper L mark) {G : Ground} {B : Name → Bool} where
  pub chain_nil : (ms ns : List Meaning) → Sets L G B (run_all ms) (run_all ns) → ChainSets L G B [] [] ms ns
  unfolding run_all and_then
  chain_nil ms ns h = record { at = λ w c hc s p k. h.at w c hc s p k }

  pub chain_cons : {B₁ B₂ : Name → Bool} (d e : Meaning) (ds es ms ns : List Meaning) → Splits B B₁ B₂ → Sets L G B₁ d e → ChainSets L G B₂ ds es ms ns → ChainSets L G B (d ∷ ds) (e ∷ es) ms ns
  unfolding run_all and_then
  chain_cons {B₁} {B₂} d e ds es ms ns q h hs = record { at = λ w c hc s p k. go w c hc s p (h.at w c hc s (pend_fewer q.first p) k) }
    where
      go : (w : World) (c : Context) → FineContext L w G c → (s : State) → Pend L B c.env s → {o r : Outcome Value} → Ends L (Own B₁ c.env) (Fine L) w s o r
          → Ends L (Own B c.env) (Fine L) w s (and_then (and_then o (λ v. run_all ds c)) (λ v. run_all ms c)) (and_then (and_then r (λ v. run_all es c)) (λ v. run_all ns c))
      go w c hc s p (done {t = t} l k r) = after (later_freer (λ x i e. (q.first x e.0, e.1)) l) (freer (λ x i e. (q.second x e.0, e.1)) (hs.at _ c (context_up l.worlds hc) t (pend_later (pend_fewer q.second p) q.apart l) k))
      go w c hc s p (jump l k r) = jump (later_freer (λ x i e. (q.first x e.0, e.1)) l) k r
      go w c hc s p (outside o) = outside _
      go w c hc s p (cut o) = cut _

  pub chain_settle : (y : Name) (r : Put) (d e i j : Meaning) (ds es ms ns : List Meaning) → L.settles y ≡ r → G.sets y ≡ true
      → ((w : World) (c : Context) → FineContext L w G c → (s : State) → FineState L w s → Inits P w c s (i c s) (j c s) r) → ((c : Context) (s : State) → d c s ≡ and_then (i c s) (λ v. initialise y v c)) → ((c : Context) (s : State) → e c s ≡ and_then (j c s) (λ v. initialise y v c))
      → ChainSets L (settle y (put_name y r) G) B ds es ms ns → ChainSets L G B (d ∷ ds) (e ∷ es) ms ns
  unfolding run_all
  chain_settle y r d e i j ds es ms ns q g hi ed ee hs = record {
    at = λ w c hc s p k.
        let f : Value → Run Value = λ z t. and_then (run_all ds c t) (λ v. run_all ms c) in
        let h : Value → Run Value = λ z t. and_then (run_all es c t) (λ v. run_all ns c) in
        subst (λ (o : Outcome Value). Ends L (Own B c.env) (Fine L) w s o (and_then (and_then (e c s) (λ v. run_all es c)) (λ v. run_all ns c))) (sym (and_then_assoc (d c s) (λ v. run_all ds c) (λ v. run_all ms c)))
        (subst (λ (o : Outcome Value). Ends L (Own B c.env) (Fine L) w s (and_then (d c s) f) o) (sym (and_then_assoc (e c s) (λ v. run_all es c) (λ v. run_all ns c)))
        (subst (λ (o : Outcome Value). Ends L (Own B c.env) (Fine L) w s (and_then o f) (and_then (e c s) h)) (sym (ed c s))
        (subst (λ (o : Outcome Value). Ends L (Own B c.env) (Fine L) w s (and_then (and_then (i c s) (λ v. initialise y v c)) f) (and_then o h)) (sym (ee c s))
        (settle_ends P y r q g w c hc s k (hi w c hc s k) f h (λ v t hd hk l. hs.at v c hd t (pend_calm p l) hk)))));
  }

  -- a declaration in front of items
  pub declaration_sets : (m n : Meaning) (ds es ms ns : List Meaning) → ((c : Context) (s : State) → m c s ≡ run_all ds c s) → ((c : Context) (s : State) → n c s ≡ run_all es c s) → ChainSets L G B ds es ms ns → Sets L G B (run_all (m ∷ ms)) (run_all (n ∷ ns))
  unfolding run_all
  declaration_sets m n ds es ms ns em en h = record {
    at = λ w c hc s p k.
        subst (λ (o : Outcome Value). Ends L (Own B c.env) (Fine L) w s (and_then o (λ v. run_all ms c)) (and_then (n c s) (λ v. run_all ns c))) (sym (em c s))
        (subst (λ (o : Outcome Value). Ends L (Own B c.env) (Fine L) w s (and_then (run_all ds c s) (λ v. run_all ms c)) (and_then o (λ v. run_all ns c))) (sym (en c s)) (h.at w c hc s p k));
  }

module _ {L : Links} {mark : ℕ} (P : Proper L mark) where
  read_inits : (x : Name) → is_unresolved mark x ≡ false → L.fixed x ≡ true → (w : World) (c : Context) (s : State) → FineState L w s → Inits P w c s (read mark x c s) (read mark x c s) (a_name x)
  read_inits x u f w c s h = subst (λ (o : Outcome Value). Inits P w c s o o (a_name x)) (sym (bound_read mark x c s u)) (at_index (c.env x) refl)
    where
      at_value : (j : ℕ) → c.env x ≡ Some j → (a : Cell) → slice_get (s.store x) j ≡ Some a → (o : Option Value) → a.held ≡ o → Inits P w c s (in_core o s) (in_core o s) (a_name x)
      at_value j i a t None q = inits_left refl
      at_value j i a t (Some v) q = inits_name x v f (h.fine x j a v t q) (record { index = j; cell = a; is_at = i; there = t; holds = q }) refl refl

      at_cell : (j : ℕ) → c.env x ≡ Some j → (o : Option Cell) → slice_get (s.store x) j ≡ o → Inits P w c s (held_value o s) (held_value o s) (a_name x)
      at_cell j i None t = inits_left refl
      at_cell j i (Some a) t = at_value j i a t a.held refl

      at_index : (o : Option ℕ) → c.env x ≡ o → Inits P w c s (read_bound x o s) (read_bound x o s) (a_name x)
      at_index None i = inits_left refl
      at_index (Some j) i = at_cell j i (cell_at s x j) refl

  -- a read at which a name is put
  copy_inits : (a x : Name) → is_unresolved mark x ≡ false → L.fixed x ≡ true → (w : World) (c : Context) (s : State) {o : Outcome Value} → LinkedRead L w s o (read mark x c s) → Inits P w c s o (and_then o (λ v. read mark x c)) (a_name x)
  unfolding and_then
  copy_inits a x u f w c s (no_read e) = inits_left e
  copy_inits a x u f w c s {o} (same_read v r e d) = inits_name x v f r (stands mark x c s v u d) e (ap (λ (o : Outcome Value). and_then o (λ v. read mark x c)) e ∙ d)

  -- a read at which a value is put
  known_inits : (u : Value) (w : World) (c : Context) (s : State) {o : Outcome Value} → LinkedRead L w s o (Done u s) → Inits P w c s o (and_then o (λ v. gives u)) (a_value u)
  unfolding and_then
  known_inits u w c s (no_read e) = inits_left e
  known_inits u w c s {o} (same_read v r e d) = inits_value u (subst (Fine L w) (sym (done_value d)) r) (e ∙ ap (λ (v : Value). Done v s) (sym (done_value d))) (ap (λ (o : Outcome Value). and_then o (λ v. gives u)) e)
    where
      done_value : {a : Value} → Done u s ≡ Done a s → u ≡ a
      done_value e = cc

  through_put : (a : Name) (o r : Put) → o ≡ r → through mark a o (read mark a) (λ z. read mark z) (λ v. gives v) ≡ through mark a r (read mark a) (λ z. read mark z) (λ v. gives v)
  through_put a o r e = ap (λ (o : Put). through mark a o (read mark a) (λ z. read mark z) (λ v. gives v)) e

  pub init_inits : {G : Ground} (n : ℕ) (call call' : Caller) (y : Name) {t : Tree} {r : Put} → L.settles y ≡ r → Init L G t r → (w : World) (c : Context) → FineContext L w G c → (s : State) → FineState L w s → Inits P w c s (eval mark n call t c s) (linked_eval L mark n call' t c s) r
  unfolding eval evals linked_eval linked_evals act linked_act
  init_inits n call call' y q (init_name x {ss}) w c hc s h =
      let e = P.settled_ends y x q in
      subst (λ (m : Meaning). Inits P w c s (read mark x c s) (m c s) (a_name x)) (sym (through_put x (put_at L x ss) nothing (puts_none L x ss e.0 e.1 e.2))) (read_inits x (P.settled_bound y x q).1 (P.settled_target y x q) w c s h)
  init_inits {G} n call call' y q (init_copy a x {ss} placed e) w c hc s h =
      let l = named_read P a x (put_is L G a ss placed x e) in
      subst (λ (m : Meaning). Inits P w c s (read mark a c s) (m c s) (a_name x)) (sym (through_put a (put_at L a ss) (a_name x) e)) (copy_inits a x l.1 (P.settled_target y x q) w c s (l.2 w c hc s h))
  init_inits {G} n call call' y q (init_known a {v} {ss} placed e) w c hc s h =
      let l = valued_read P a v (put_value_is L G a ss placed v e) in
      subst (λ (m : Meaning). Inits P w c s (read mark a c s) (m c s) (a_value v)) (sym (through_put a (put_at L a ss) (a_value v) e)) (known_inits v w c s (l.1 w c hc s h))
  init_inits n call call' y q (init_literal (NumLit z) e) w c hc s h = subst (λ (v : Value). Inits P w c s (Done (Num z) s) (Done (Num z) s) (a_value v)) (some_same e) (inits_value (Num z) tt refl refl)
  init_inits n call call' y q (init_literal (StrLit t) e) w c hc s h = subst (λ (v : Value). Inits P w c s (Done (Text t) s) (Done (Text t) s) (a_value v)) (some_same e) (inits_value (Text t) tt refl refl)
  init_inits n call call' y q (init_literal (BoolLit b) e) w c hc s h = subst (λ (v : Value). Inits P w c s (Done (Truth b) s) (Done (Truth b) s) (a_value v)) (some_same e) (inits_value (Truth b) tt refl refl)
  init_inits n call call' y q (init_literal NullLit e) w c hc s h = subst (λ (v : Value). Inits P w c s (Done Null s) (Done Null s) (a_value v)) (some_same e) (inits_value Null tt refl refl)
  init_inits n call call' y q (init_literal _ e) w c hc s h = absurd (none_is_some e)
