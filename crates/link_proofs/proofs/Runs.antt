-- Whole runs of modules and scripts in which names stand for names.
use Rattle.std.proofs.Common.{◌≡◌, ℕ, suc, Bool, true, false, ◌||◌, List, [], ◌∷◌, Option, Some, None, refl, sym, ap, subst, slice_get, cond, ◌∙◌}
use Rattle.std.proofs.lemmas.Bool.{false≢true, and_parts}
use Rattle.swc_ast.specs.Tree.{Name, same_name, Text, Tree, Forest, ε}
use Rattle.swc_ast.specs.Value.{Env, Value, Undefined, Null, NaN, TypeError, ScriptThis, Truth, Num, Text as TextValue, Items as ItemsValue, Record, Function as FunctionValue, Token, Own as OwnValue, Values, is_data, all_data, Cell, State, Broken, Continued, Returned, Thrown, Outcome, Run, and_then, Context}
use Rattle.swc_ast.specs.Scope.{Declaration, Lexical, Function as DeclaredFunction, has_name, found, is_found, declared, import_names}
use Rattle.swc_ast.specs.Meaning.{◌>>=◌, gives, leaves, Caller, in_scope, cell_of_declared, set_cell, eval, run_all, hand, call_handed}
use Rattle.swc_ast.specs.Call.{each_of, var_cell, body_cells, in_env, call_at}
use Rattle.swc_ast.specs.Run.{World as Surroundings, Callee, Export, Handed, LaterCall, Datum, OwnFunction, Answered, Failed, Ending, Finished, Observation, Observed, Sees, LeftCore, imports_at, all_are_data, import_cell, refreshed, exported, shown, show_exports, export_name, export_value, call_own, call_callee, answer_of, at_moment, answers, ends, start, finish, once, sources, run_items, run_statements, observe_by}
use Rattle.link_proofs.specs.Links.{Links, empty_ground, Ground, Proper, linked_eval, Functions, functions, IsLexical, lexical, IsConstant, constant, KnownBirth, known_lexical, known_variable, beside, Items, OpensWhole, GoodWhole, good_module, good_script}
use Rattle.meaning_proofs.proofs.Names.{same_itself}
use Rattle.meaning_proofs.proofs.Finds.{is_none}
use Rattle.meaning_proofs.proofs.Imports.{imports_are}
use Rattle.link_proofs.proofs.State.{World, Any, Grown, grown_itself, Fine, fine_up, Fines, fines_up, FineEnv, FineContext, context_up, Behind, Steady, is_fixed, is_still, Holds, calmed, FineState, Stays, stays, Later, Nothing, Ends, done, jump, outside, cut, Runs, SafeCalls, after, freer, gives_safe, leaves_safe, bind, then_ends}
use Rattle.link_proofs.proofs.Stores.{data_fine, all_data_fine, hand_safe, read_bound_safe, SetAt, here, elsewhere, set_at, store_length}
use Rattle.link_proofs.proofs.Scopes.{Own, Pend, SomeCell, EmptyCell, NewCells, in_scope_safe}
use Rattle.link_proofs.proofs.Parts.{call_handed_safe}
use Rattle.link_proofs.proofs.Calls.{items_each, call_at_safe}

none_is_some : {A : Type 0} {a : A} → None ≡ Some a → ⊥
none_is_some e = cc

same_some : {A : Type 0} {a b : A} → Some a ≡ Some b → a ≡ b
same_some e = cc

-- values beside names that are not fixed
pub data Loose (L : Links) : List (Name × Value) → Type 0 where
  no_loose : Loose L []
  one_loose : (x : Name) (v : Value) {ps : List (Name × Value)} → (L.fixed x ≡ false) × (L.still x ≡ false) → Loose L ps → Loose L ((x, v) ∷ ps)

pub all_loose : (L : Links) (ps : List (Name × Value)) → ((x : Name) → is_found x ps ≡ true → (L.fixed x ≡ false) × (L.still x ≡ false)) → Loose L ps
all_loose L [] h = no_loose
all_loose L (p ∷ ps) h = one_loose p.0 p.1 (h p.0 (ap (λ (b : Bool). b || is_found p.0 ps) (itself p.0))) (all_loose L ps (λ x e. h x (or_right (same_name p.0 x) (is_found x ps) e)))
  where
    itself : (x : Name) → same_name x x ≡ true
    itself x = same_itself x

    or_right : (a b : Bool) → b ≡ true → (a || b) ≡ true
    or_right true b e = refl
    or_right false b e = e

module _ {L : Links} {mark : ℕ} (P : Proper L mark) where
  -- a cell of a name that is not fixed
  loose_state : (w : World) (s : State) (x : Name) (k : ℕ) (c : Cell) (v : Value) → FineState L w s → (L.fixed x ≡ false) × (L.still x ≡ false) → c.held ≡ Some v → Fine L w v → FineState L w (set_cell s x k c)
  loose_state w s x k c v h f q r = record {
    sized = λ z g. h.sized z g ∙ sym (store_length s x k c z);
    fine = λ z j b u e p. fine_at z j b u e p (set_at s x k c z j);
    linked = λ y z l j b u e p. linked_at y z l j b u e p (set_at s x k c y j);
    known = λ y a l j b u e p. known_at y a l j b u e p (set_at s x k c y j);
    frozen = λ y g j b e. frozen_at y g j b e (set_at s x k c y j);
    facts = λ z j u e. let o = h.facts z j u e in facts_at z j u o (set_at s x k c z j);
    handed = h.handed;
  }
    where
      fine_at : (z : Name) (j : ℕ) (b : Cell) (u : Value) → slice_get ((set_cell s x k c).store z) j ≡ Some b → b.held ≡ Some u → SetAt s x k c z j → Fine L w u
      fine_at z j b u e p (here n i g) = subst (Fine L w) (same_some (sym q ∙ ap (λ (c : Cell). c.held) (same_some (sym g ∙ e)) ∙ p)) r
      fine_at z j b u e p (elsewhere g) = h.fine z j b u (sym g ∙ e) p

      not_it : (z : Name) → L.fixed z ≡ true → x ≡ z → ⊥
      not_it z g n = false≢true (sym f.0 ∙ ap L.fixed n ∙ g)

      no_steady : (z : Name) → x ≡ z → Steady L z → ⊥
      no_steady z n (is_fixed g) = not_it z g n
      no_steady z n (is_still g) = false≢true (sym f.1 ∙ ap L.still n ∙ g)

      facts_at : (z : Name) (j : ℕ) (u : Value) → (o : Holds L s z j u) → SetAt s x k c z j → Holds L (set_cell s x k c) z j u
      facts_at z j u o (here n i g) = absurd (no_steady z n o.steady)
      facts_at z j u o (elsewhere g) = record { steady = o.steady; cell = o.cell; there = g ∙ o.there; holds = o.holds }

      known_at : (y : Name) (a : Value) → L.known y ≡ Some a → (j : ℕ) (b : Cell) (u : Value) → slice_get ((set_cell s x k c).store y) j ≡ Some b → b.held ≡ Some u → SetAt s x k c y j → u ≡ a
      known_at y a l j b u e p (here n i g) = absurd (not_it y (P.known_fixed y a l) n)
      known_at y a l j b u e p (elsewhere g) = h.known y a l j b u (sym g ∙ e) p

      frozen_at : (y : Name) → L.constant y ≡ true → (j : ℕ) (b : Cell) → slice_get ((set_cell s x k c).store y) j ≡ Some b → SetAt s x k c y j → b.writable ≡ false
      frozen_at y l j b e (here n i g) = absurd (not_it y (P.constant_fixed y l) n)
      frozen_at y l j b e (elsewhere g) = h.frozen y l j b (sym g ∙ e)

      still : (y z : Name) (j : ℕ) (u : Value) → L.link y ≡ Some z → (o : Behind w s y z j u) → SetAt s x k c z o.index → Behind w (set_cell s x k c) y z j u
      still y z j u l o (here n m g) = absurd (not_it z (P.target_fixed y z l) n)
      still y z j u l o (elsewhere g) = record { index = o.index; cell = o.cell; linked = o.linked; there = g ∙ o.there; holds = o.holds }

      linked_at : (y z : Name) → L.link y ≡ Some z → (j : ℕ) (b : Cell) (u : Value) → slice_get ((set_cell s x k c).store y) j ≡ Some b → b.held ≡ Some u → SetAt s x k c y j → Behind w (set_cell s x k c) y z j u
      linked_at y z l j b u e p (here n i g) = absurd (not_it y (P.linked_fixed y z l) n)
      linked_at y z l j b u e p (elsewhere g) = let o = h.linked y z l j b u (sym g ∙ e) p in still y z j u l o (set_at s x k c z o.index)

  loose_later : (w : World) (s : State) (x : Name) (k : ℕ) (c : Cell) → L.fixed x ≡ false → Later L Nothing w s w (set_cell s x k c)
  loose_later w s x k c f = record { worlds = grown_itself; cells = λ y g j d e. go y g j d e (set_at s x k c y j) }
    where
      go : (y : Name) → L.fixed y ≡ true → (j : ℕ) (d : Cell) → slice_get (s.store y) j ≡ Some d → SetAt s x k c y j → Stays Nothing y j d ((set_cell s x k c).store y)
      go y g j d e (here n i q) = absurd (false≢true (sym f ∙ ap L.fixed n ∙ g))
      go y g j d e (elsewhere q) = stays (q ∙ e)

  -- imports of another moment
  refreshed_ends : {A : Type 0} {R : World → A → Type 0} {m n : Run A} {ps : List (Name × Value)} → Loose L ps → all_are_data ps ≡ true → (w : World) → Runs L Nothing R w m n → (s : State) → FineState L w s → Ends L Nothing R w s (m (refreshed ps s)) (n (refreshed ps s))
  refreshed_ends no_loose e w h s k = h s k
  refreshed_ends (one_loose x v {ps} f hs) e w h s k =
      let d = and_parts (is_data v) (all_are_data ps) e in
      after (loose_later w s x 0 (record { writable = false; held = Some v }) f.0) (refreshed_ends hs d.1 w h (set_cell s x 0 (record { writable = false; held = Some v })) (loose_state w s x 0 (record { writable = false; held = Some v }) v k f refl (data_fine L w v d.0)))

  pub at_moment_safe : {A : Type 0} {R : World → A → Type 0} {m n : Run A} (ps : List (Name × Value)) → Loose L ps → (w : World) → Runs L Nothing R w m n → Runs L Nothing R w (at_moment ps m) (at_moment ps n)
  at_moment_safe {A} {R} {m} {n} ps hp w h = go (all_are_data ps) refl
    where
      go : (b : Bool) → all_are_data ps ≡ b → Runs L Nothing R w (cond b (λ (s : State). m (refreshed ps s)) leaves) (cond b (λ (s : State). n (refreshed ps s)) leaves)
      go true e = λ s k. refreshed_ends hp e w h s k
      go false e = leaves_safe leaves

  -- exports

  hand_shown_safe : (w : World) (v : Value) → Fine L w v → Runs L Nothing Any w (hand v >>= λ a. gives (Datum a)) (hand v >>= λ a. gives (Datum a))
  hand_shown_safe w v r = bind (hand_safe P w v r) (λ u g a q. gives_safe (Datum a) tt)

  pub shown_safe : (w : World) (v : Value) → Fine L w v → Runs L Nothing Any w (shown v) (shown v)
  shown_safe w (FunctionValue f e t) r = gives_safe OwnFunction tt
  shown_safe w Undefined r = hand_shown_safe w Undefined r
  shown_safe w Null r = hand_shown_safe w Null r
  shown_safe w NaN r = hand_shown_safe w NaN r
  shown_safe w TypeError r = hand_shown_safe w TypeError r
  shown_safe w ScriptThis r = hand_shown_safe w ScriptThis r
  shown_safe w (Truth b) r = hand_shown_safe w (Truth b) r
  shown_safe w (Num z) r = hand_shown_safe w (Num z) r
  shown_safe w (TextValue t) r = hand_shown_safe w (TextValue t) r
  shown_safe w (ItemsValue vs) r = hand_shown_safe w (ItemsValue vs) r
  shown_safe w (Record fs) r = hand_shown_safe w (Record fs) r
  shown_safe w (Token n b) r = hand_shown_safe w (Token n b) r
  shown_safe w (OwnValue k) r = hand_shown_safe w (OwnValue k) r

  show_exports_safe : (xs : List (Text × Name)) (w : World) (c : Context) → Runs L Nothing Any w (show_exports xs c) (show_exports xs c)
  unfolding show_exports
  show_exports_safe [] w c = gives_safe [] tt
  show_exports_safe (p ∷ ps) w c = bind (read_bound_safe P w p.1 (c.env p.1)) (λ u g v r. bind (shown_safe u v r) (λ x q a i. bind (show_exports_safe ps x c) (λ y z rest m. gives_safe ((p.0, a) ∷ rest) tt)))

  export_value_safe : (o : Option Name) (w : World) (c : Context) → Runs L Nothing (Fine L) w (export_value o c) (export_value o c)
  export_value_safe None w c = leaves_safe leaves
  export_value_safe (Some x) w c = read_bound_safe P w x (c.env x)

  -- later calls

  pub call_own_safe : {call call' : Caller} → SafeCalls L call call' → (w : World) (f : Value) (vs : Values) → Fine L w f → Fines L w vs → Runs L Nothing (Fine L) w (call_own call f vs) (call_own call' f vs)
  call_own_safe hk w (FunctionValue f e t) vs r rs = hk.by w (FunctionValue f e t) Undefined vs r tt rs
  call_own_safe hk w (OwnValue k) vs r rs = call_handed_safe P hk w k Undefined vs tt rs
  call_own_safe hk w _ vs r rs = leaves_safe leaves

  pub call_handle_safe : {call call' : Caller} → SafeCalls L call call' → (w : World) (k : ℕ) (this : Value) (vs : Values) → Fines L w vs → Runs L Nothing (Fine L) w (cond (is_data this) (call_handed call k this vs) leaves) (cond (is_data this) (call_handed call' k this vs) leaves)
  call_handle_safe {call} {call'} hk w k this vs rs = go (is_data this) refl
    where
      go : (b : Bool) → is_data this ≡ b → Runs L Nothing (Fine L) w (cond b (call_handed call k this vs) leaves) (cond b (call_handed call' k this vs) leaves)
      go true e = call_handed_safe P hk w k this vs (data_fine L w this e) rs
      go false e = leaves_safe leaves

  call_callee_safe : {call call' : Caller} → SafeCalls L call call' → (xs : List (Text × Name)) (f : Callee) (vs : Values) (c : Context) (w : World) → Fines L w vs → Runs L Nothing (Fine L) w (call_callee call xs f vs c) (call_callee call' xs f vs c)
  call_callee_safe hk xs (Export t) vs c w rs = bind (export_value_safe (export_name t xs) w c) (λ u g f r. call_own_safe hk u f vs r (fines_up L g vs rs))
  call_callee_safe hk xs (Handed k this) vs c w rs = call_handle_safe hk w k this vs rs

  pub answer_safe : {A B : Type 0} (w : World) (v : Value) → Fine L w v → (answer : Value → B → A) {m n : Run B} → ((u : World) → Grown w u → Runs L Nothing Any u m n) → (s : State) → FineState L w s
      → Ends L Nothing Any w s (and_then (hand v s) (λ x. m >>= λ shows. gives (answer x shows))) (and_then (hand v s) (λ x. n >>= λ shows. gives (answer x shows)))
  answer_safe w v r answer hm s h = then_ends (hand_safe P w v r s h) (λ u g x q. bind (hm u g) (λ y p shows z. gives_safe (answer x shows) tt))

  answer_of_ends : (xs : List (Text × Name)) (c : Context) {w : World} {s : State} {o p : Outcome Value} → Ends L Nothing (Fine L) w s o p → Ends L Nothing Any w s (answer_of xs c o) (answer_of xs c p)
  answer_of_ends xs c (done {a} {v} {t} l h r) = after l (answer_safe v a r Answered (λ u g. show_exports_safe xs u c) t h)
  answer_of_ends xs c (jump {j = Thrown a} {v} {t} l h r) = after l (answer_safe v a r Failed (λ u g. show_exports_safe xs u c) t h)
  answer_of_ends xs c (jump {j = Broken k} l h r) = outside _
  answer_of_ends xs c (jump {j = Continued k} l h r) = outside _
  answer_of_ends xs c (jump {j = Returned v} l h r) = outside _
  answer_of_ends xs c (outside o) = outside _
  answer_of_ends xs c (cut o) = cut _

  pub if_data_safe : (vs : Values) (w : World) {m n : Run Value} → (Fines L w vs → Runs L Nothing (Fine L) w m n) → Runs L Nothing (Fine L) w (cond (all_data vs) m leaves) (cond (all_data vs) n leaves)
  if_data_safe vs w {m} {n} h = go (all_data vs) refl
    where
      go : (b : Bool) → all_data vs ≡ b → Runs L Nothing (Fine L) w (cond b m leaves) (cond b n leaves)
      go true e = h (all_data_fine L w vs e)
      go false e = leaves_safe leaves

  answers_safe : {call call' : Caller} → SafeCalls L call call' → (sur : Surroundings) (ts : Forest) → ((x : Name) → has_name x (import_names ts) ≡ true → (L.fixed x ≡ false) × (L.still x ≡ false)) → (k : ℕ) (ls : List LaterCall) (c : Context) (w : World) → Runs L Nothing Any w (answers call sur ts k ls c) (answers call' sur ts k ls c)
  unfolding answers
  answers_safe hk sur ts q k [] c w = gives_safe [] tt
  answers_safe hk sur ts q k (l ∷ ls) c w =
      at_moment_safe (imports_at sur k ts) (all_loose L (imports_at sur k ts) (λ x e. q x (sym (imports_are x sur k ts) ∙ e))) w
      (bind {R = Any} (λ s h. answer_of_ends (exported ts) c (if_data_safe l.arguments w (call_callee_safe hk (exported ts) l.callee l.arguments c w) s h)) (λ u g a r.
      bind (answers_safe hk sur ts q (suc k) ls c u) (λ x p rest z. gives_safe (a ∷ rest) tt)))

  finish_safe : {call call' : Caller} → SafeCalls L call call' → (sur : Surroundings) (ts : Forest) → ((x : Name) → has_name x (import_names ts) ≡ true → (L.fixed x ≡ false) × (L.still x ≡ false)) → (ls : List LaterCall) (c : Context) (w : World) → Runs L Nothing Any w (finish call sur ts ls c) (finish call' sur ts ls c)
  finish_safe hk sur ts q ls c w = bind (show_exports_safe (exported ts) w c) (λ u g shows r. bind (answers_safe hk sur ts q 1 ls c u) (λ x p given z. gives_safe (Finished shows given) tt))

  -- scopes of modules and scripts

  whole_new : {B binds : Name → Bool} {ts : Forest} → OpensWhole L B binds ts → Functions L (beside binds empty_ground) ts → (imports : List (Name × Value)) → ((x : Name) → is_found x imports ≡ true → L.fixed x ≡ false) → all_are_data imports ≡ true → (v : World) (e : Env) (t : Value) (s : State) → FineEnv L v (beside binds empty_ground) e → Fine L v t
      → NewCells L v e s binds (λ x. import_cell (found x imports) (body_cells ts t e x))
  whole_new {B} {binds} {ts} op (functions hf) imports hi hd v e t s he ht = record {
    there = λ x f b. there (found x imports) (cell_of_declared e t (found x (declared ts)));
    fine = λ x b c u p q. fine x (found x imports) refl (found x (declared ts)) refl c u p q;
    linked = λ y x l b c u p q. absurd (empty (found y imports) (no_import y (P.linked_fixed y x l)) (op.no_variable y x l b) c u p q);
    known = λ y a l b c u p q. birth (found y imports) (no_import y (P.known_fixed y a l)) a (op.known_variable y a l b) c u p q;
    frozen = λ x f b c p. frozen (found x imports) (no_import x (P.constant_fixed x f)) (op.constants x f b) c p;
  }
    where
      there : (i : Option Value) (o : Option Cell) → SomeCell (import_cell i (var_cell o))
      there (Some u) o = record { cell = record { writable = false; held = Some u }; is = refl }
      there None None = record { cell = record { writable = true; held = Some Undefined }; is = refl }
      there None (Some c) = record { cell = c; is = refl }

      data_found : (ps : List (Name × Value)) → all_are_data ps ≡ true → (x : Name) (u : Value) → found x ps ≡ Some u → is_data u ≡ true
      data_found [] d x u p = absurd (none_is_some p)
      data_found (r ∷ ps) d x u p = go _ (and_parts (is_data r.1) (all_are_data ps) d) p (data_found ps)
        where
          go : (b : Bool) → (is_data r.1 ≡ true) × (all_are_data ps ≡ true) → cond b (Some r.1) (found x ps) ≡ Some u → (all_are_data ps ≡ true → (x : Name) (u : Value) → found x ps ≡ Some u → is_data u ≡ true) → is_data u ≡ true
          go true d p h = subst (λ (u : Value). is_data u ≡ true) (same_some p) d.0
          go false d p h = h d.1 x u p

      fine : (x : Name) (i : Option Value) → found x imports ≡ i → (o : Option Declaration) → found x (declared ts) ≡ o → (c : Cell) (u : Value) → import_cell i (var_cell (cell_of_declared e t o)) ≡ Some c → c.held ≡ Some u → Fine L v u
      fine x (Some z) m o d c u p q = subst (Fine L v) (same_some (ap (λ (c : Cell). c.held) (same_some p) ∙ q)) (data_fine L v z (data_found imports hd x z m))
      fine x None m None d c u p q = subst (Fine L v) (same_some (ap (λ (c : Cell). c.held) (same_some p) ∙ q)) tt
      fine x None m (Some (Lexical w)) d c u p q = absurd (none_is_some (ap (λ (c : Cell). c.held) (same_some p) ∙ q))
      fine x None m (Some (DeclaredFunction f)) d c u p q = subst (Fine L v) (same_some (ap (λ (c : Cell). c.held) (same_some p) ∙ q)) (record { ground = beside binds empty_ground; env = calmed he; body = hf x f d }, ht)

      no_import : (y : Name) → L.fixed y ≡ true → found y imports ≡ None
      no_import y f = is_none y imports (not_true (is_found y imports) (λ e. false≢true (sym (hi y e) ∙ f)))
        where
          not_true : (b : Bool) → (b ≡ true → ⊥) → b ≡ false
          not_true false h = refl
          not_true true h = absurd (h refl)

      birth : (i : Option Value) → i ≡ None → (a : Value) {o : Option Declaration} → KnownBirth a o → (c : Cell) (u : Value) → import_cell i (var_cell (cell_of_declared e t o)) ≡ Some c → c.held ≡ Some u → u ≡ a
      birth None m a (known_lexical w) c u p q = absurd (none_is_some (ap (λ (c : Cell). c.held) (same_some p) ∙ q))
      birth None m a (known_variable i) c u p q = sym (same_some (ap (λ (c : Cell). c.held) (same_some p) ∙ q)) ∙ sym i
      birth (Some z) m a i c u p q = absurd (none_is_some (sym m))

      frozen : (i : Option Value) → i ≡ None → {o : Option Declaration} → IsConstant o → (c : Cell) → import_cell i (var_cell (cell_of_declared e t o)) ≡ Some c → c.writable ≡ false
      frozen None m constant c p = sym (ap (λ (c : Cell). c.writable) (same_some p))
      frozen (Some z) m i c p = absurd (none_is_some (sym m))

      empty : (i : Option Value) → i ≡ None → {o : Option Declaration} → IsLexical o → (c : Cell) (u : Value) → import_cell i (var_cell (cell_of_declared e t o)) ≡ Some c → c.held ≡ Some u → ⊥
      empty None m (lexical w) c u p q = none_is_some (ap (λ (c : Cell). c.held) (same_some p) ∙ q)
      empty (Some z) m i c u p q = none_is_some (sym m)

  whole_waits : {B binds : Name → Bool} {ts : Forest} → OpensWhole L B binds ts → (imports : List (Name × Value)) → ((x : Name) → is_found x imports ≡ true → L.fixed x ≡ false) → (t : Value) (e : Env) (x : Name) → B x ≡ true → EmptyCell (import_cell (found x imports) (body_cells ts t e x))
  whole_waits {ts = ts} op imports hi t e x b = go (found x imports) (is_none x imports (not_true (is_found x imports) (λ q. false≢true (sym (hi x q) ∙ op.waiting_fixed x b)))) (op.waiting x b)
    where
      not_true : (b : Bool) → (b ≡ true → ⊥) → b ≡ false
      not_true false h = refl
      not_true true h = absurd (h refl)

      go : (i : Option Value) → i ≡ None → {o : Option Declaration} → IsLexical o → EmptyCell (import_cell i (var_cell (cell_of_declared e t o)))
      go None m (lexical w) = record { cell = record { writable = w; held = None }; is = refl; empty = refl }
      go (Some z) m i = absurd (none_is_some (sym m))

  abbrev first_world : World
  first_world = record { links = λ z. []; facts = λ z k. None }

  start_fine : (loads : List Text) (sur : Surroundings) → FineState L first_world (start loads sur)
  start_fine loads sur = record { sized = λ z f. refl; fine = λ z k c v e p. cc; linked = λ y x l k c v e p. cc; known = λ y u l k c v e p. cc; frozen = λ x f k c e. cc; facts = λ z k u e. cc; handed = λ k v e. cc }

  first_context : (v : Value) → Fine L first_world v → FineContext L first_world empty_ground (in_env (λ x. None) v)
  first_context v r = record { env = record { hidden = λ z e. refl; shown = λ z e. absurd (false≢true e); at = λ z f k e. cc; settled = λ z q. absurd (false≢true q); fresh = λ z q k e. cc }; this = r }

  pub whole_scope : {B binds : Name → Bool} {ts : Forest} → OpensWhole L B binds ts → Functions L (beside binds empty_ground) ts → (imports : List (Name × Value)) → ((x : Name) → is_found x imports ≡ true → L.fixed x ≡ false) → all_are_data imports ≡ true → (t this : Value) → Fine L first_world t → Fine L first_world this
      → {A : Type 0} {body body' : Context → Run A} → ((v : World) (d : Context) (s : State) → FineContext L v (beside binds empty_ground) d → Pend L B d.env s → FineState L v s → Ends L (Own B d.env) Any v s (body d s) (body' d s)) → (loads : List Text) (sur : Surroundings)
      → Ends L Nothing Any first_world (start loads sur) (in_scope binds (λ e x. import_cell (found x imports) (body_cells ts t e x)) body (in_env (λ x. None) this) (start loads sur)) (in_scope binds (λ e x. import_cell (found x imports) (body_cells ts t e x)) body' (in_env (λ x. None) this) (start loads sur))
  whole_scope {B} {binds} {ts} op hf imports hi hd t this ht hthis hb loads sur =
      in_scope_safe P empty_ground B binds (λ e x. import_cell (found x imports) (body_cells ts t e x)) first_world (in_env (λ x. None) this) (first_context this hthis) (record { apart = λ y x l b q. refl; settled = λ y q. absurd (false≢true q); settled_target = λ y x q. absurd (false≢true q) }) (λ x b. (op.waiting_bound x b, op.waiting_fixed x b))
      (λ e x b. whole_waits op imports hi t e x b) (λ s h v e g he next others. whole_new op hf imports hi hd v e t _ he (fine_up L g t ht)) (λ v d s g hd p h. hb v d s hd p h) (start loads sur) (start_fine loads sur)

  -- what is seen

  pub ends_seen : {w : World} {s : State} {o p : Outcome Ending} → Ends L Nothing Any w s o p → (q : Observation) → ends o ≡ Sees q → ends p ≡ Sees q
  ends_seen (done l h r) q e = e
  ends_seen (jump l h r) q e = e
  ends_seen (outside o) q e = cc
  ends_seen (cut o) q e = cc

  pub items_then : {G : Ground} {B : Name → Bool} {ts : Forest} → Items L G B ts → (n d : ℕ) {A : Type 0} {k k' : Context → Run A} → ((w : World) (c : Context) → FineContext L w G c → Runs L Nothing Any w (k c) (k' c)) → (v : World) (c : Context) (s : State) → FineContext L v G c → Pend L B c.env s → FineState L v s
      → Ends L (Own B c.env) Any v s ((run_all (each_of (eval mark n (call_at (eval mark n) d)) ts) c >>= λ v. k c) s) ((run_all (each_of (linked_eval L mark n (call_at (linked_eval L mark n) d)) ts) c >>= λ v. k' c) s)
  items_then h n d hk v c s hc p hs = then_ends ((items_each P n (call_at (eval mark n) d) (call_at (linked_eval L mark n) d) (call_at_safe P n d) h).at v c hc s p hs) (λ w g a r t i. freer (λ x k e. absurd e) (hk w c (context_up g hc) t i))

  pub if_data : (b : Bool) {x y : Observed} (q : Observation) → (b ≡ true → x ≡ Sees q → y ≡ Sees q) → cond b x LeftCore ≡ Sees q → cond b y LeftCore ≡ Sees q
  if_data true q h e = h refl e
  if_data false q h e = e

  -- What is seen where names stand for names is what is seen.
  pub whole_linked : {t : Tree} → GoodWhole L t → (n d : ℕ) (sur : Surroundings) (calls : List LaterCall) (o : Observation) → observe_by (eval mark n) d sur calls t ≡ Sees o → observe_by (linked_eval L mark n) d sur calls t ≡ Sees o
  unfolding observe_by run_items run_statements
  whole_linked (good_module {ts = ts} B op hi hf hs) n d sur calls o =
      if_data (all_are_data (imports_at sur 0 ts)) o (λ q. ends_seen (whole_scope op hf (imports_at sur 0 ts) (λ x e. (hi x (sym (imports_are x sur 0 ts) ∙ e)).0) q Undefined Undefined tt tt
      (λ v c s hc p h. items_then hs n d (λ w c hc. finish_safe (call_at_safe P n d) sur ts hi calls c w) v c s hc p h) (once [] (sources ts)) sur) o)
  whole_linked (good_script {ts = ts} B op hf hs) n d sur calls o =
      ends_seen (whole_scope op hf [] (λ x e. absurd (false≢true e)) refl Undefined ScriptThis tt tt (λ v c s hc p h. items_then hs n d (λ w c hc. finish_safe (call_at_safe P n d) sur ε (λ x e. absurd (false≢true e)) calls c w) v c s hc p h) [] sur) o
