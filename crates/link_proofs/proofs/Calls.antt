-- Calls of functions whose trees are good.
use Rattle.std.proofs.Common.{◌≡◌, ℕ, zero, suc, Bool, true, false, List, ◌∷◌, Option, Some, None, refl, sym, ap, subst, ◌∙◌}
use Rattle.std.proofs.lemmas.Bool.{false≢true, true≢false}
use Rattle.swc_ast.specs.Tree.{Name, Fn, Body, Tree, node, Forest, ε, ◌⊳◌}
use Rattle.swc_ast.specs.Value.{Env, Value, Undefined, Function as FunctionValue, Values, ∅, ◌▹◌, Cell, State, Outcome, Run, and_then, Context, Meaning}
use Rattle.swc_ast.specs.Scope.{Declaration, Lexical, Function as DeclaredFunction, has_name, param_names, found, declared}
use Rattle.swc_ast.specs.Meaning.{◌>>=◌, leaves, in_scope, cell_of_declared, is_param, eval, evals, run_all, initialise}
use Rattle.swc_ast.specs.Call.{each_of, first_value, rest_values, is_undefined, param_value, unset, var_cell, body_cells, statements_of, body_binds, own_name_cell, in_env, bind_params, run_body, run_function, run_children, invoke, call_function, call_at}
use Rattle.link_proofs.specs.Links.{Links, Proper, linked_eval, linked_evals, Functions, functions, OpensBody, ParamFits, no_fixed, waits, IsLexical, lexical, IsConstant, constant, KnownBirth, known_lexical, known_variable, beside, is_body, Ground, calm, Unlinked, Invoked, invoked_fn, invoked_arrow, invoked_method, invoked_declared, invoked_default, Goods, no_good, more_good, Callable, callable, GoodParams, no_params, a_param, BodyGood, body_list, body_expression, Items}
use Rattle.link_proofs.proofs.State.{World, Grown, grown_on, calmed, Fine, fine_up, Fines, fines_up, FineEnv, env_up, FineContext, context_up, FineState, later_freer, Nothing, Ends, done, jump, outside, cut, Runs, Safe, SafeCalls, after, freer, gives_safe, leaves_safe, if_safe, then_ends}
use Rattle.link_proofs.proofs.Stores.{moving, initialise_unfixed}
use Rattle.link_proofs.proofs.Scopes.{Own, Pend, EmptyCell, SomeCell, NewCells, in_scope_safe, pend_later, pend_calm, pend_fewer}
use Rattle.link_proofs.proofs.Parts.{Both, none, more, at_return_ends, at_call_ends}
use Rattle.link_proofs.proofs.Lists.{Sets, first_safe}
use Rattle.link_proofs.proofs.Fors.{plain_param}
use Rattle.link_proofs.proofs.Trees.{good_safe, items_sets}

none_is_some : {A : Type 0} {a : A} → None ≡ Some a → ⊥
none_is_some e = cc

same_some : {A : Type 0} {a b : A} → Some a ≡ Some b → a ≡ b
same_some e = cc

-- arguments
first_fine : (L : Links) (w : World) (vs : Values) → Fines L w vs → Fine L w (first_value vs)
first_fine L w ∅ h = tt
first_fine L w (v ▹ vs) h = h.0

rest_fine : (L : Links) (w : World) (vs : Values) → Fines L w vs → Fines L w (rest_values vs)
rest_fine L w ∅ h = tt
rest_fine L w (v ▹ vs) h = h.1

-- lists of trees
evals_each : (mark n : ℕ) (call : Value → Value → Values → Run Value) (ts : Forest) → evals mark n call ts ≡ each_of (eval mark n call) ts
unfolding evals
evals_each mark n call ε = refl
evals_each mark n call (t ⊳ ts) = ap (λ (ms : List Meaning). eval mark n call t ∷ ms) (evals_each mark n call ts)

linked_each : (L : Links) (mark n : ℕ) (call : Value → Value → Values → Run Value) (ts : Forest) → linked_evals L mark n call ts ≡ each_of (linked_eval L mark n call) ts
unfolding linked_evals
linked_each L mark n call ε = refl
linked_each L mark n call (t ⊳ ts) = ap (λ (ms : List Meaning). linked_eval L mark n call t ∷ ms) (linked_each L mark n call ts)

no_run : (does : Tree → Meaning) (t : Tree) → is_body t ≡ false → run_body does t ≡ does t
no_run does (node Body ss ts) e = absurd (true≢false e)
no_run does (node _ ss ts) e = refl

-- cells of a body
var_there : (o : Option Cell) → SomeCell (var_cell o)
var_there None = record { cell = record { writable = true; held = Some Undefined }; is = refl }
var_there (Some c) = record { cell = c; is = refl }

lexical_var : (e : Env) (t : Value) {o : Option Declaration} → IsLexical o → EmptyCell (var_cell (cell_of_declared e t o))
lexical_var e t (lexical w) = record { cell = record { writable = w; held = None }; is = refl; empty = refl }

module _ {L : Links} {mark : ℕ} (P : Proper L mark) (n : ℕ) (call call' : Value → Value → Values → Run Value) (hk : SafeCalls L call call') where
  both_each : {G : Ground} {ts : Forest} → Goods L G ts → Both (Safe L G) (each_of (eval mark n call) ts) (each_of (linked_eval L mark n call') ts)
  both_each no_good = none
  both_each (more_good h hs) = more (good_safe P n call call' hk h) (both_each hs)

  pub items_each : {G : Ground} {B : Name → Bool} {ts : Forest} → Items L G B ts → Sets L G B (run_all (each_of (eval mark n call) ts)) (run_all (each_of (linked_eval L mark n call') ts))
  items_each {G} {B} {ts} h =
      subst (λ (ms : List Meaning). Sets L G B (run_all ms) (run_all (each_of (linked_eval L mark n call') ts))) (evals_each mark n call ts)
      (subst (λ (ns : List Meaning). Sets L G B (run_all (evals mark n call ts)) (run_all ns)) (linked_each L mark n call' ts) (items_sets P n call call' hk h))

  param_value_safe : {G : Ground} {ms ns : List Meaning} → Both (Safe L G) ms ns → (v : Value) (w : World) (c : Context) → FineContext L w G c → Fine L w v → Runs L Nothing (Fine L) w (param_value ms v c) (param_value ns v c)
  param_value_safe none v w c hc r = gives_safe v r
  param_value_safe (more h hs) v w c hc r = if_safe (is_undefined v) (h.at w c hc) (gives_safe v r)

  unlinked_at : (x : Name) → L.link x ≡ None → (y : Name) → L.link x ≡ Some y → ⊥
  unlinked_at x n y l = none_is_some (sym n ∙ l)

  -- a parameter takes its value
  param_first : {G : Ground} {B : Name → Bool} (w : World) (x : Name) (v : Value) (c : Context) → FineContext L w G c → Fine L w v → L.link x ≡ None → L.known x ≡ None → ParamFits L B x → (s : State) → Pend L B c.env s → FineState L w s → Ends L (Own B c.env) (Fine L) w s (initialise x v c s) (initialise x v c s)
  param_first w x v c hc r u i (no_fixed f k) s p h = initialise_unfixed P w x v c r f (λ n e. moving k) s h
  param_first w x v c hc r u i (waits b) s p h = first_safe P w x v c hc r b s p h (λ k e y l. absurd (unlinked_at x u y l)) (λ a l. absurd (none_is_some (sym i ∙ l)))

  params_ends : {G : Ground} {B : Name → Bool} {ps : Forest} → GoodParams L G B ps → (vs : Values) (w : World) (c : Context) → FineContext L w G c → Fines L w vs → (s : State) → Pend L B c.env s → FineState L w s
      → Ends L (Own B c.env) (Fine L) w s (bind_params (eval mark n call) ps vs c s) (bind_params (linked_eval L mark n call') ps vs c s)
  unfolding bind_params and_then
  params_ends no_params vs w c hc hv s p h = gives_safe Undefined tt s h
  params_ends {G} {B} (a_param x {cs = cs} {ts} B₁ B₂ q u i f hs hp) vs w c hc hv s p h =
      value (λ a r m k z. params_ends hp (rest_values vs) a c (context_up m hc) (fines_up L m (rest_values vs) (rest_fine L w vs hv)) r z k) (param_value_safe (both_each hs) (first_value vs) w c hc (first_fine L w vs hv) s h)
    where
      Next : Type 0
      Next =
          (a : World) (r : State) → Grown w a → FineState L a r → Pend L B₂ c.env r → Ends L (Own B₂ c.env) (Fine L) a r (bind_params (eval mark n call) ts (rest_values vs) c r) (bind_params (linked_eval L mark n call') ts (rest_values vs) c r)

      next : (a : World) (r : State) → Grown w a → Pend L B c.env r → Next → {o i : Outcome Value} → Ends L (Own B₁ c.env) (Fine L) a r o i
          → Ends L (Own B c.env) (Fine L) a r (and_then o (λ z. bind_params (eval mark n call) ts (rest_values vs) c)) (and_then i (λ z. bind_params (linked_eval L mark n call') ts (rest_values vs) c))
      next a r g k go (done {t = t} l m z) = after (later_freer (λ x i e. (q.first x e.0, e.1)) l) (freer (λ x i e. (q.second x e.0, e.1)) (go _ t (grown_on g l.worlds) m (pend_later (pend_fewer q.second k) q.apart l)))
      next a r g k go (jump l m z) = jump (later_freer (λ x i e. (q.first x e.0, e.1)) l) m z
      next a r g k go (outside o) = outside _
      next a r g k go (cut o) = cut _

      value : Next → {o i : Outcome Value} → Ends L Nothing (Fine L) w s o i
          → Ends L (Own B c.env) (Fine L) w s (and_then o (λ v. initialise x v c >>= λ z. bind_params (eval mark n call) ts (rest_values vs) c)) (and_then i (λ v. initialise x v c >>= λ z. bind_params (linked_eval L mark n call') ts (rest_values vs) c))
      value go (done {a = v} {v = a} {t = r} l m z) =
          let k = pend_calm p l in
          after (later_freer (λ x k e. absurd e) l) (next a r l.worlds k go (param_first a x v c (context_up l.worlds hc) z u i f r (pend_fewer q.first k) m))
      value go (jump l m z) = jump (later_freer (λ x k e. absurd e) l) m z
      value go (outside o) = outside _
      value go (cut o) = cut _

  body_sets : {G : Ground} {B : Name → Bool} {b : Tree} → BodyGood L G B b → Sets L G B (run_body (eval mark n call) b) (run_body (linked_eval L mark n call') b)
  body_sets (body_list h) = record { at = λ w c hc s p k. at_return_ends P ((items_each h).at w c hc s p k) }
  body_sets {G} {B} (body_expression {t = t} e h) =
      subst (λ (m : Meaning). Sets L G B m (run_body (linked_eval L mark n call') t)) (sym (no_run (eval mark n call) t e))
      (subst (λ (m : Meaning). Sets L G B (eval mark n call t) m) (sym (no_run (linked_eval L mark n call') t e)) (record { at = λ w c hc s p k. freer (λ x k e. absurd e) ((good_safe P n call call' hk h).at w c hc s k) }))

  body_new : {G : Ground} {B : Name → Bool} {ps : List Name} {ts : Forest} → OpensBody L G B ps ts → Functions L (beside (body_binds ps ts) G) ts → (v : World) (e : Env) (t : Value) (s : State) → FineEnv L v (beside (body_binds ps ts) G) e → Fine L v t → NewCells L v e s (body_binds ps ts) (body_cells ts t e)
  body_new {G} {B} {ps} {ts} op (functions hf) v e t s he ht = record {
    there = λ x f b. var_there (cell_of_declared e t (found x (declared ts)));
    fine = λ x b c u p q. fine x (found x (declared ts)) refl c u p q;
    linked = λ y x l b c u p q. absurd (empty (op.no_variable y x l b) c u p q);
    known = λ y a l b c u p q. birth a (op.known_variable y a l b) c u p q;
    frozen = λ x f b c p. frozen (op.constants x f b) c p;
  }
    where
      fine : (x : Name) (o : Option Declaration) → found x (declared ts) ≡ o → (c : Cell) (u : Value) → var_cell (cell_of_declared e t o) ≡ Some c → c.held ≡ Some u → Fine L v u
      fine x None d c u p q = subst (Fine L v) (same_some (ap (λ (c : Cell). c.held) (same_some p) ∙ q)) tt
      fine x (Some (Lexical w)) d c u p q = absurd (none_is_some (ap (λ (c : Cell). c.held) (same_some p) ∙ q))
      fine x (Some (DeclaredFunction f)) d c u p q = subst (Fine L v) (same_some (ap (λ (c : Cell). c.held) (same_some p) ∙ q)) (record { ground = beside (body_binds ps ts) G; env = calmed he; body = hf x f d }, ht)

      birth : (a : Value) {o : Option Declaration} → KnownBirth a o → (c : Cell) (u : Value) → var_cell (cell_of_declared e t o) ≡ Some c → c.held ≡ Some u → u ≡ a
      birth a (known_lexical w) c u p q = absurd (none_is_some (ap (λ (c : Cell). c.held) (same_some p) ∙ q))
      birth a (known_variable i) c u p q = sym (same_some (ap (λ (c : Cell). c.held) (same_some p) ∙ q)) ∙ sym i

      frozen : {o : Option Declaration} → IsConstant o → (c : Cell) → var_cell (cell_of_declared e t o) ≡ Some c → c.writable ≡ false
      frozen constant c p = sym (ap (λ (c : Cell). c.writable) (same_some p))

      empty : {o : Option Declaration} → IsLexical o → (c : Cell) (u : Value) → var_cell (cell_of_declared e t o) ≡ Some c → c.held ≡ Some u → ⊥
      empty (lexical w) c u p q = none_is_some (ap (λ (c : Cell). c.held) (same_some p) ∙ q)

  unset_new : (L : Links) (xs : List Name) → ((x : Name) → L.constant x ≡ true → has_name x xs ≡ false) → (v : World) (e : Env) (s : State) → NewCells L v e s (λ x. has_name x xs) (λ x. unset)
  unset_new L xs u v e s = record {
    there = λ x f b. record { cell = record { writable = true; held = None }; is = refl };
    fine = λ x b c v p q. absurd (none_is_some (ap (λ (c : Cell). c.held) (same_some p) ∙ q));
    linked = λ y x l b c v p q. absurd (none_is_some (ap (λ (c : Cell). c.held) (same_some p) ∙ q));
    known = λ y a l b c v p q. absurd (none_is_some (ap (λ (c : Cell). c.held) (same_some p) ∙ q));
    frozen = λ x f b c p. absurd (false≢true (sym (u x f) ∙ b));
  }

  children_safe : {G : Ground} {cs : Forest} → Callable L G cs → (vs : Values) (w : World) (c : Context) → FineContext L w G c → Fines L w vs → Runs L Nothing (Fine L) w (run_children (eval mark n call) cs vs c) (run_children (linked_eval L mark n call') cs vs c)
  unfolding run_function
  children_safe {G} (callable {ps = ps} {b} B D op hp ob hf hb) vs w c hc hv =
      in_scope_safe P G B (λ x. has_name x (param_names ps)) (λ e x. unset) w c hc op.opens (λ x b. (op.waiting x b, op.waiting_fixed x b))
      (λ e x b. record { cell = record { writable = true; held = None }; is = refl; empty = refl })
      (λ s h v e g he next others. unset_new L (param_names ps) op.no_constant v e _)
      (λ v d s g hd p h. then_ends (params_ends hp vs v d hd (fines_up L g vs hv) s p h) (λ u k z r t i. freer (λ x k e. absurd e) (body u d (context_up k hd) t i)))
    where
      G' : Ground
      G' = beside (λ x. has_name x (param_names ps)) G

      body : (u : World) (d : Context) → FineContext L u G' d
          → Runs L Nothing (Fine L) u (in_scope (body_binds (param_names ps) (statements_of b)) (body_cells (statements_of b) d.this) (run_body (eval mark n call) b) d) (in_scope (body_binds (param_names ps) (statements_of b)) (body_cells (statements_of b) d.this) (run_body (linked_eval L mark n call') b) d)
      body u d hd =
          in_scope_safe P G' D (body_binds (param_names ps) (statements_of b)) (body_cells (statements_of b) d.this) u d hd ob.opens (λ x b. (ob.waiting_bound x b, ob.waiting_fixed x b))
          (λ e x b. lexical_var e d.this (ob.waiting x b))
          (λ s h v e g he next others. body_new ob hf v e d.this _ he (fine_up L g d.this hd.this))
          (λ v e s g he p h. (body_sets hb).at v e he s p h)

  own_new : (o : Option Name) (f : Value) → Unlinked L o → (w : World) (e : Env) (s : State) → Fine L w f → NewCells L w e s (is_param o) (own_name_cell f)
  own_new o f q w e s r = record {
    there = λ x k b. record { cell = record { writable = false; held = Some f }; is = refl };
    fine = λ x b c u p i. subst (Fine L w) (same_some (ap (λ (c : Cell). c.held) (same_some p) ∙ i)) r;
    linked = λ y x l b c u p i. absurd (none_is_some (sym (plain_param o q y b).unlinked ∙ l));
    known = λ y a l b c u p i. absurd (none_is_some (sym (plain_param o q y b).unknown ∙ l));
    frozen = λ x g b c p. refl_of (same_some p);
  }
    where
      refl_of : {c : Cell} → record { writable = false; held = Some f } ≡ c → c.writable ≡ false
      refl_of p = sym (ap (λ (c : Cell). c.writable) p)

  env_context : {G : Ground} {w : World} {e : Env} {v : Value} → FineEnv L w G e → Fine L w v → FineContext L w G (in_env e v)
  env_context he r = record { env = he; this = r }

  invoke_safe : {G : Ground} {f : Tree} → Invoked L G f → (w : World) (e : Env) (outer this : Value) (vs : Values) → FineEnv L w (calm G) e → Fine L w outer → Fine L w this → Fines L w vs → Runs L Nothing (Fine L) w (invoke (eval mark n call) f e outer this vs) (invoke (linked_eval L mark n call') f e outer this vs)
  unfolding invoke
  invoke_safe {G} (invoked_fn o {ss} {cs} op u h) w e outer this vs he ho ht hv =
      in_scope_safe P (calm G) (λ x. false) (is_param o) (λ d. own_name_cell (FunctionValue (node (Fn o) ss cs) e outer)) w (in_env e this) (env_context he ht) op (λ x b. absurd (false≢true b)) (λ e x b. absurd (false≢true b))
      (λ s k v d g hd next others. own_new o (FunctionValue (node (Fn o) ss cs) e outer) u v d _ (record { ground = G; env = env_up g he; body = invoked_fn o op u h }, fine_up L g outer ho))
      (λ v d s g hd p k. freer (λ x k e. absurd e) (children_safe h vs v d hd (fines_up L g vs hv) s k))
  invoke_safe (invoked_arrow h) w e outer this vs he ho ht hv = children_safe h vs w (in_env e outer) (env_context he ho) hv
  invoke_safe (invoked_method h) w e outer this vs he ho ht hv = children_safe h vs w (in_env e this) (env_context he ht) hv
  invoke_safe (invoked_declared x h) w e outer this vs he ho ht hv = children_safe h vs w (in_env e this) (env_context he ht) hv
  invoke_safe (invoked_default o h) w e outer this vs he ho ht hv = children_safe h vs w (in_env e this) (env_context he ht) hv

  call_function_safe : (w : World) (f this : Value) (vs : Values) → Fine L w f → Fine L w this → Fines L w vs → Runs L Nothing (Fine L) w (call_function (eval mark n call) f this vs) (call_function (linked_eval L mark n call') f this vs)
  call_function_safe w (FunctionValue f e outer) this vs hf ht hv = let q = hf.0 in invoke_safe q.body w e outer this vs q.env hf.1 ht hv
  call_function_safe w _ this vs hf ht hv = leaves_safe leaves

module _ {L : Links} {mark : ℕ} (P : Proper L mark) where
  pub call_at_safe : (n d : ℕ) → SafeCalls L (call_at (eval mark n) d) (call_at (linked_eval L mark n) d)
  unfolding call_at
  call_at_safe n zero = record { by = λ w f t vs hf ht hv s h. cut _ }
  call_at_safe n (suc d) = record { by = λ w f t vs hf ht hv s h. at_call_ends P (call_function_safe P n (call_at (eval mark n) d) (call_at (linked_eval L mark n) d) (call_at_safe n d) w f t vs hf ht hv s h) }
