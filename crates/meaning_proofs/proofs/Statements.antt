-- Lists, switch, try, declarations and `for`.
use Rattle.std.proofs.Common.{◌≡◌, ℕ, zero, suc, Bool, true, false, ◌||◌, List, [], ◌∷◌, Option, Some, None, refl, sym, ap, subst, cond, ◌∙◌, slice_get}
use Rattle.std.proofs.lemmas.Bool.{false≢true, true≢false}
use Rattle.swc_ast.specs.declared.VarDeclKind.{VarDeclKind}
use Rattle.swc_ast.specs.declared.VarDeclKind.TheVariants.{Var, Let, Const}
use Rattle.swc_ast.specs.Tree.{Name, same_name, Tree, Forest}
use Rattle.swc_ast.specs.Value.{Env, Value, Cell, State, Outcome, Run, Context, Meaning}
use Rattle.swc_ast.specs.Scope.{Declaration, Lexical, Function as DeclaredFunction, Declared, found, is_found, declared, case_statements}
use Rattle.swc_ast.specs.Meaning.{cell_of, copies, cell_of_declared, in_list_scope, Case, cases_of, bodies_from, default_bodies, chosen, selected, switch, catch_cell, is_param, handled, with_state, resume, finally, try_catch, declare, head_names, copied_names, for_loop}
use Rattle.meaning_proofs.specs.Names.{Names, empty, Guarded, no_cell, a_cell}
use Rattle.meaning_proofs.specs.Roles.{holds_function, Free, free_name}
use Rattle.meaning_proofs.proofs.Relation.{Pairing, Each, none, more, Maybe, neither, both, SameEnv, V, undefined, function, same_held, any_held, SameCell, alike, S, C, broken, continued, returned, thrown, Sim, done, jump, outside, cut, Ran, M, SameDeclaration, lexical, declared_function, unseen_function}
use Rattle.meaning_proofs.proofs.Names.{other_name}
use Rattle.meaning_proofs.proofs.Combine.{gives_sim, in_core_sim, bind}
use Rattle.meaning_proofs.proofs.Prims.{same_strict}
use Rattle.meaning_proofs.proofs.Stores.{free, cell_sim, initialise_sim}
use Rattle.meaning_proofs.proofs.Scopes.{Born, in_scope_sim, plain_sim}
use Rattle.meaning_proofs.proofs.Parts.{same_option, run_all_sim}
use Rattle.meaning_proofs.proofs.Loops.{turns_sim, at_break_sim}

-- what two lists of statements declare agrees on each name that is kept; no function has a guarded name
pub record SameList (P : Pairing) (ts us : Forest) : Type 0 where
  pub declares : (x : Name) → P.dropped x ≡ false → Maybe (SameDeclaration P x) (found x (declared ts)) (found x (declared us))
  pub fresh : (x : Name) → P.guarded x ≡ true → holds_function (found x (declared ts)) ≡ false

-- what two heads of `for` declare
pub record SameHead (P : Pairing) (t u : Tree) : Type 0 where
  pub names : (x : Name) → P.dropped x ≡ false → Maybe (SameDeclaration P x) (found x (head_names t)) (found x (head_names u))
  pub copied : (x : Name) → P.dropped x ≡ false → is_found x (copied_names t) ≡ is_found x (copied_names u)
  pub fresh : (x : Name) → P.guarded x ≡ true → holds_function (found x (head_names t)) ≡ false

-- cases of a switch
pub data SameCase (P : Pairing) : Case → Case → Type 0 where
  a_default : {m n : Meaning} → M P m n → SameCase P (None, m) (None, n)
  a_test : {t u m n : Meaning} → M P t u → M P m n → SameCase P (Some t, m) (Some u, n)

-- a name is found in both of two lists or in none
abbrev pub some_is : {A : Type 0} → Option A → Bool
some_is None = false
some_is (Some a) = true

if_some_is : {A : Type 0} (b : Bool) (a : A) (o : Option A) → some_is (cond b (Some a) o) ≡ (b || some_is o)
if_some_is true a o = refl
if_some_is false a o = refl

pub found_is : {A : Type 0} (x : Name) (ps : List (Name × A)) → some_is (found x ps) ≡ is_found x ps
found_is x [] = refl
found_is x (p ∷ ps) = if_some_is (same_name p.0 x) p.1 (found x ps) ∙ ap (λ b. same_name p.0 x || b) (found_is x ps)

some_same : {A : Type 0} {RA : A → A → Type 0} {o p : Option A} → Maybe RA o p → some_is o ≡ some_is p
some_same neither = refl
some_same (both r) = refl

pub is_found_same : {A : Type 0} {RA : A → A → Type 0} (x : Name) (ps qs : List (Name × A)) → Maybe RA (found x ps) (found x qs) → is_found x ps ≡ is_found x qs
is_found_same x ps qs h = sym (found_is x ps) ∙ some_same h ∙ found_is x qs

get_guarded : {g : Option Value} {cs : List Cell} → Guarded g cs → (k : ℕ) → Born g (slice_get cs k)
get_guarded no_cell k = tt
get_guarded (a_cell e h) zero = e
get_guarded (a_cell e h) (suc k) = get_guarded h k

copied_guarded : (s : State) (o : Option ℕ) (x : Name) {g : Option Value} → Guarded g (s.store x) → Born g (cell_of s x o)
copied_guarded s None x h = tt
copied_guarded s (Some k) x h = get_guarded h k

-- a cell that is no function's holds nothing yet
pub declared_born : (g : Option Value) (e : Env) (v : Value) (o : Option Declaration) → holds_function o ≡ false → Born g (cell_of_declared e v o)
declared_born g e v None h = tt
declared_born g e v (Some (Lexical w)) h = empty refl
declared_born g e v (Some (DeclaredFunction f)) h = absurd (true≢false h)

pub no_param : (N : Names) (o : Option Name) → Free N o → (y : Name) → N.guarded y ≡ true → is_param o y ≡ true → ⊥
no_param N None q y g b = false≢true b
no_param N (Some x) (free_name q) y g b = false≢true (sym (other_name N.guarded x y q g) ∙ b)

-- the parameter of a handler, if there is one
abbrev pub FreeParam : Names → Option (Option Name) → Type 0
FreeParam N None = Unit {0}
FreeParam N (Some o) = Free N o

module _ {P : Pairing} where
  -- lists

  pub declared_cell_sim : {x : Name} {e f : Env} {v w : Value} {o p : Option Declaration} → SameEnv P e f → V P v w → Maybe (SameDeclaration P x) o p → Maybe (SameCell P x) (cell_of_declared e v o) (cell_of_declared f w p)
  declared_cell_sim he r neither = neither
  declared_cell_sim he r (both (lexical w)) = both (alike refl neither)
  declared_cell_sim he r (both (declared_function k)) = both (alike refl (both (same_held (function k he r))))
  declared_cell_sim he r (both (unseen_function l)) = both (alike refl (both (any_held l)))

  pub in_list_scope_sim : {ts us : Forest} → SameList P ts us → {m n : Meaning} → M P m n → M P (in_list_scope ts m) (in_list_scope us n)
  unfolding in_list_scope
  in_list_scope_sim {ts} {us} hl hm = record {
    at = λ c d hc.
        in_scope_sim
        (λ x kept. is_found_same x (declared ts) (declared us) (hl.declares x kept))
        (λ e f he x kept. declared_cell_sim he hc.this (hl.declares x kept))
        (λ e x g b. declared_born (P.guard x) e c.this (found x (declared ts)) (hl.fresh x g))
        hm.at hc;
  }

  -- switch

  pub cases_sim : (ds : List Bool) {ms ns : List Meaning} → Each (M P) ms ns → Each (SameCase P) (cases_of ds ms) (cases_of ds ns)
  cases_sim [] hs = none
  cases_sim (d ∷ ds) none = none
  cases_sim (d ∷ ds) (more h none) = none
  cases_sim (true ∷ ds) (more h (more g hs)) = more (a_default g) (cases_sim ds hs)
  cases_sim (false ∷ ds) (more h (more g hs)) = more (a_test h g) (cases_sim ds hs)

  pub bodies_sim : {ks ls : List Case} → Each (SameCase P) ks ls → Each (M P) (bodies_from ks) (bodies_from ls)
  bodies_sim none = none
  bodies_sim (more (a_default g) hs) = more g (bodies_sim hs)
  bodies_sim (more (a_test h g) hs) = more g (bodies_sim hs)

  pub default_sim : {ks ls : List Case} → Each (SameCase P) ks ls → Each (M P) (default_bodies ks) (default_bodies ls)
  default_sim none = none
  default_sim (more (a_default g) hs) = more g (bodies_sim hs)
  default_sim (more (a_test h g) hs) = default_sim hs

  chosen_sim : {b d : Bool} → b ≡ d → {ms ns : List Meaning} → Each (M P) ms ns → {x y : Run (List Meaning)} → Ran P (Each (M P)) x y → Ran P (Each (M P)) (chosen b ms x) (chosen d ns y)
  chosen_sim {b} e {ms} {ns} h {x} {y} g = subst (λ d. Ran P (Each (M P)) (chosen b ms x) (chosen d ns y)) e (go b)
    where
      go : (b : Bool) → Ran P (Each (M P)) (chosen b ms x) (chosen b ns y)
      go true = gives_sim h
      go false = g

  pub selected_sim : {ks ls : List Case} → Each (SameCase P) ks ls → {xs ys : List Meaning} → Each (M P) xs ys → {v w : Value} → V P v w → {c d : Context} → C P c d → Ran P (Each (M P)) (selected ks xs v c) (selected ls ys w d)
  unfolding selected
  selected_sim none ho r hc = gives_sim ho
  selected_sim (more (a_default g) hs) ho r hc = selected_sim hs ho r hc
  selected_sim (more (a_test h g) hs) ho r hc = bind (h.at _ _ hc) (λ a b q. bind (in_core_sim (same_option (same_strict r q))) (λ x y e. chosen_sim e (more g (bodies_sim hs)) (selected_sim hs ho r hc)))

  pub switch_sim : (ts us : Forest) {ks ls : List Case} {m n : Meaning} → SameList P (case_statements ts) (case_statements us) → Each (SameCase P) ks ls → M P m n → M P (switch ts ks m) (switch us ls n)
  unfolding switch
  switch_sim ts us hl hk hm = record {
    at = λ c d hc.
        bind (hm.at c d hc) (λ v w r.
        (in_list_scope_sim hl (record {
          at = λ c d hc s t h.
              at_break_sim (bind (selected_sim hk (default_sim hk) r hc) (λ xs ys hx. (run_all_sim hx).at c d hc) s t h);
        })).at c d hc);
  }

  -- try

  catch_sim : {v w : Value} → V P v w → (x : Name) → Maybe (SameCell P x) (catch_cell v x) (catch_cell w x)
  catch_sim r x = both (alike refl (both (same_held r)))

  handled_sim : (param : Option (Option Name)) → FreeParam P.names param → {m n : Meaning} {c d : Context} {o p : Outcome Value} → M P m n → C P c d → Sim P (V P) o p → Sim P (V P) (handled param m c o) (handled param n d p)
  handled_sim None q hm hc h = h
  handled_sim (Some x) q hm hc (jump (thrown r) h) = in_scope_sim (λ y kept. refl) (λ e f he y kept. catch_sim r y) (λ e y g b. absurd (no_param P.names x q y g b)) hm.at hc _ _ h
  handled_sim (Some x) q hm hc (jump (broken l) h) = jump (broken l) h
  handled_sim (Some x) q hm hc (jump (continued l) h) = jump (continued l) h
  handled_sim (Some x) q hm hc (jump (returned r) h) = jump (returned r) h
  handled_sim (Some x) q hm hc (done r h) = done r h
  handled_sim (Some x) q hm hc (outside o) = outside _
  handled_sim (Some x) q hm hc (cut o) = cut _

  with_state_sim : {o p : Outcome Value} {s t : State} → S P s t → Sim P (V P) o p → Sim P (V P) (with_state o s) (with_state p t)
  with_state_sim h (done r g) = done r h
  with_state_sim h (jump r g) = jump r h
  with_state_sim h (outside o) = outside _
  with_state_sim h (cut o) = cut _

  resume_sim : {o p q r : Outcome Value} → Sim P (V P) o p → Sim P (V P) q r → Sim P (V P) (resume o q) (resume p r)
  resume_sim h (done q g) = with_state_sim g h
  resume_sim h (jump q g) = jump q g
  resume_sim h (outside o) = outside _
  resume_sim h (cut o) = cut _

  finally_sim : {m n : Meaning} {c d : Context} {o p : Outcome Value} → M P m n → C P c d → Sim P (V P) o p → Sim P (V P) (finally m c o) (finally n d p)
  finally_sim hm hc (done r h) = resume_sim (done r h) (hm.at _ _ hc _ _ h)
  finally_sim hm hc (jump r h) = resume_sim (jump r h) (hm.at _ _ hc _ _ h)
  finally_sim hm hc (outside o) = outside _
  finally_sim hm hc (cut o) = cut _

  pub try_sim : (param : Option (Option Name)) → FreeParam P.names param → (b b' h h' f f' : Meaning) → M P b b' → M P h h' → M P f f' → M P (try_catch param b h f) (try_catch param b' h' f')
  unfolding try_catch
  try_sim param q b b' h h' f f' hb hh hf = record { at = λ c d hc s t hs. finally_sim hf hc (handled_sim param q hh hc (hb.at c d hc s t hs)) }

  -- declarations

  pub declare_sim : (kind : VarDeclKind) (x : Name) → P.dropped x ≡ false → P.guarded x ≡ false → {ms ns : List Meaning} → Each (M P) ms ns → M P (declare kind x ms) (declare kind x ns)
  unfolding declare
  declare_sim Var x kept f none = record { at = λ c d hc. gives_sim undefined }
  declare_sim Var x kept f (more h hs) = record { at = λ c d hc. bind (h.at c d hc) (λ v w r. initialise_sim x kept (free f) r hc) }
  declare_sim Let x kept f none = record { at = λ c d hc. initialise_sim x kept (free f) undefined hc }
  declare_sim Let x kept f (more h hs) = record { at = λ c d hc. bind (h.at c d hc) (λ v w r. initialise_sim x kept (free f) r hc) }
  declare_sim Const x kept f none = record { at = λ c d hc. initialise_sim x kept (free f) undefined hc }
  declare_sim Const x kept f (more h hs) = record { at = λ c d hc. bind (h.at c d hc) (λ v w r. initialise_sim x kept (free f) r hc) }

  copied_sim : {s t : State} → S P s t → (x : Name) → P.dropped x ≡ false → {o p : Option ℕ} → o ≡ p → Maybe (SameCell P x) (cell_of s x o) (cell_of t x p)
  copied_sim {s} {t} h x kept {o} {p} e = subst (λ p. Maybe (SameCell P x) (cell_of s x o) (cell_of t x p)) e (go o)
    where
      go : (o : Option ℕ) → Maybe (SameCell P x) (cell_of s x o) (cell_of t x o)
      go None = neither
      go (Some k) = cell_sim h x kept k

  pub copies_sim : (names names' : List Declared) → ((x : Name) → P.dropped x ≡ false → is_found x names ≡ is_found x names') → (c d : Context) → C P c d → Ran P (C P) (copies names c) (copies names' d)
  unfolding copies
  copies_sim names names' hx c d hc = λ s t h.
      in_scope_sim hx (λ e f he x kept. copied_sim h x kept (hc.env.at x kept)) (λ e x g b. copied_guarded s (c.env x) x (h.guards.at x g)) (λ c d hd. gives_sim hd) hc s t h

  pub for_loop_sim : (n : ℕ) {t u : Tree} → SameHead P t u → (i i' b b' x x' y y' : Meaning) → M P i i' → M P b b' → M P x x' → M P y y' → M P (for_loop n t i b x y) (for_loop n u i' b' x' y')
  unfolding for_loop
  for_loop_sim n {t} {u} hh i i' b b' x x' y y' hi hb hx hy = record {
    at = λ c d hc.
        in_scope_sim
        (λ x kept. is_found_same x (head_names t) (head_names u) (hh.names x kept))
        (λ e f he x kept. declared_cell_sim he hc.this (hh.names x kept))
        (λ e x g b. declared_born (P.guard x) e c.this (found x (head_names t)) (hh.fresh x g))
        (λ c d hd. bind (hi.at _ _ (plain_sim hd)) (λ v w r. bind (copies_sim _ _ hh.copied c d hd) (λ c d hd. turns_sim n hb hy (copies_sim _ _ hh.copied) hx hd)))
        hc;
  }
