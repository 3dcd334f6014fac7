-- Lists, switch, try, declarations and `for`.
use Rattle.std.proofs.Common.{◌≡◌, ℕ, Bool, true, false, ◌||◌, List, [], ◌∷◌, Option, Some, None, refl, sym, ap, subst, cond, ◌∙◌}
use Rattle.swc_ast.specs.declared.VarDeclKind.{VarDeclKind}
use Rattle.swc_ast.specs.declared.VarDeclKind.TheVariants.{Var, Let, Const}
use Rattle.swc_ast.specs.Tree.{Name, same_name, Tree, Forest}
use Rattle.swc_ast.specs.Value.{Env, Value, State, Outcome, Run, Context, Meaning}
use Rattle.swc_ast.specs.Scope.{Declaration, Lexical, Function as DeclaredFunction, Declared, found, is_found, declared, list_binds, case_statements}
use Rattle.swc_ast.specs.Meaning.{cell_of, copies, copied_cell, cell_of_declared, list_cells, in_list_scope, Case, cases_of, bodies_from, default_bodies, chosen, selected, switch, catch_cell, is_param, handled, with_state, resume, finally, try_catch, declare, head_names, copied_names, for_loop}
use Rattle.rename_rules.specs.Renamed.{new_option, new_handler}
use Rattle.rename_proofs.proofs.Relation.{Pairing, Each, none, more, Maybe, neither, both, SameEnv, Keeps, V, undefined, function, SameCell, S, C, broken, continued, returned, thrown, Sim, done, jump, outside, cut, Ran, M}
use Rattle.rename_proofs.proofs.Combine.{gives_sim, in_core_sim, bind}
use Rattle.rename_proofs.proofs.Prims.{same_strict}
use Rattle.rename_proofs.proofs.Stores.{cell_sim, initialise_sim, same_new}
use Rattle.rename_proofs.proofs.Scopes.{in_scope_sim, plain_sim}
use Rattle.rename_proofs.proofs.Parts.{same_option, run_all_sim}
use Rattle.rename_proofs.proofs.Loops.{turns_sim, at_break_sim}

-- what two lists declare of a name and of its new one
pub data SameDeclaration (P : Pairing) : Declaration → Declaration → Type 0 where
  lexical : (w : Bool) → SameDeclaration P (Lexical w) (Lexical w)
  declared_function : {f g : Tree} → Keeps P f g → SameDeclaration P (DeclaredFunction f) (DeclaredFunction g)

-- two lists of statements declare the same of each name and its new one
pub record SameList (P : Pairing) (ts us : Forest) : Type 0 where
  pub at : (x : Name) → Maybe (SameDeclaration P) (found x (declared ts)) (found (P.to x) (declared us))

-- what two heads of `for` declare
pub record SameHead (P : Pairing) (t u : Tree) : Type 0 where
  pub names : (x : Name) → Maybe (SameDeclaration P) (found x (head_names t)) (found (P.to x) (head_names u))
  pub copied : (x : Name) → is_found x (copied_names t) ≡ is_found (P.to x) (copied_names u)

-- cases of a switch
pub data SameCase (P : Pairing) : Case → Case → Type 0 where
  a_default : {m n : Meaning} → M P m n → SameCase P (None, m) (None, n)
  a_test : {t u m n : Meaning} → M P t u → M P m n → SameCase P (Some t, m) (Some u, n)

-- a name is found in both of two lists or in none
abbrev pub some_is : {A : Type 0} → Option A → Bool
some_is None = false
some_is (Some a) = true

if_some_is : {A : Type 0} (b : Bool) (a : A) (o : Option A) → some_is (cond b (Some a) o) ≡ (b || some_is o)
if_some_is true a o = refl
if_some_is false a o = refl

pub found_is : {A : Type 0} (x : Name) (ps : List (Name × A)) → some_is (found x ps) ≡ is_found x ps
found_is x [] = refl
found_is x (p ∷ ps) = if_some_is (same_name p.0 x) p.1 (found x ps) ∙ ap (λ b. same_name p.0 x || b) (found_is x ps)

some_same : {A : Type 0} {RA : A → A → Type 0} {o p : Option A} → Maybe RA o p → some_is o ≡ some_is p
some_same neither = refl
some_same (both r) = refl

pub is_found_same : {A : Type 0} {RA : A → A → Type 0} (x y : Name) (ps qs : List (Name × A)) → Maybe RA (found x ps) (found y qs) → is_found x ps ≡ is_found y qs
is_found_same x y ps qs h = sym (found_is x ps) ∙ some_same h ∙ found_is y qs

module _ (P : Pairing) where
  pub param_sim : (o : Option Name) (x : Name) → is_param o x ≡ is_param (new_option P.to o) (P.to x)
  param_sim None x = refl
  param_sim (Some y) x = sym (same_new P y x)

module _ {P : Pairing} where
  -- lists

  pub declared_cell_sim : {e f : Env} {v w : Value} {o p : Option Declaration} → SameEnv P e f → V P v w → Maybe (SameDeclaration P) o p → Maybe (SameCell P) (cell_of_declared e v o) (cell_of_declared f w p)
  declared_cell_sim he r neither = neither
  declared_cell_sim he r (both (lexical w)) = both (record { writable = refl; held = neither })
  declared_cell_sim he r (both (declared_function k)) = both (record { writable = refl; held = both (function k he r) })

  pub binds_sim : {ts us : Forest} → SameList P ts us → (x : Name) → list_binds ts x ≡ list_binds us (P.to x)
  binds_sim {ts} {us} h x = is_found_same x (P.to x) (declared ts) (declared us) (h.at x)

  pub in_list_scope_sim : {ts us : Forest} → SameList P ts us → {m n : Meaning} → M P m n → M P (in_list_scope ts m) (in_list_scope us n)
  unfolding in_list_scope
  in_list_scope_sim {ts} {us} hl hm = record {
    at = λ c d hc.
        in_scope_sim (list_binds us) (list_cells us d.this)
        (λ x. is_found_same x (P.to x) (declared ts) (declared us) (hl.at x))
        (λ e f he x. declared_cell_sim he hc.this (hl.at x))
        hm.at hc;
  }

  -- switch

  pub cases_sim : (ds : List Bool) {ms ns : List Meaning} → Each (M P) ms ns → Each (SameCase P) (cases_of ds ms) (cases_of ds ns)
  cases_sim [] hs = none
  cases_sim (d ∷ ds) none = none
  cases_sim (d ∷ ds) (more h none) = none
  cases_sim (true ∷ ds) (more h (more g hs)) = more (a_default g) (cases_sim ds hs)
  cases_sim (false ∷ ds) (more h (more g hs)) = more (a_test h g) (cases_sim ds hs)

  pub bodies_sim : {ks ls : List Case} → Each (SameCase P) ks ls → Each (M P) (bodies_from ks) (bodies_from ls)
  bodies_sim none = none
  bodies_sim (more (a_default g) hs) = more g (bodies_sim hs)
  bodies_sim (more (a_test h g) hs) = more g (bodies_sim hs)

  pub default_sim : {ks ls : List Case} → Each (SameCase P) ks ls → Each (M P) (default_bodies ks) (default_bodies ls)
  default_sim none = none
  default_sim (more (a_default g) hs) = more g (bodies_sim hs)
  default_sim (more (a_test h g) hs) = default_sim hs

  chosen_sim : {b d : Bool} → b ≡ d → {ms ns : List Meaning} → Each (M P) ms ns → {x y : Run (List Meaning)} → Ran P (Each (M P)) x y → Ran P (Each (M P)) (chosen b ms x) (chosen d ns y)
  chosen_sim {b} e {ms} {ns} h {x} {y} g = subst (λ d. Ran P (Each (M P)) (chosen b ms x) (chosen d ns y)) e (go b)
    where
      go : (b : Bool) → Ran P (Each (M P)) (chosen b ms x) (chosen b ns y)
      go true = gives_sim h
      go false = g

  pub selected_sim : {ks ls : List Case} → Each (SameCase P) ks ls → {xs ys : List Meaning} → Each (M P) xs ys → {v w : Value} → V P v w → {c d : Context} → C P c d → Ran P (Each (M P)) (selected ks xs v c) (selected ls ys w d)
  unfolding selected
  selected_sim none ho r hc = gives_sim ho
  selected_sim (more (a_default g) hs) ho r hc = selected_sim hs ho r hc
  selected_sim (more (a_test h g) hs) ho r hc = bind (h.at _ _ hc) (λ a b q. bind (in_core_sim (same_option (same_strict r q))) (λ x y e. chosen_sim e (more g (bodies_sim hs)) (selected_sim hs ho r hc)))

  pub switch_sim : (ts us : Forest) {ks ls : List Case} {m n : Meaning} → SameList P (case_statements ts) (case_statements us) → Each (SameCase P) ks ls → M P m n → M P (switch ts ks m) (switch us ls n)
  unfolding switch
  switch_sim ts us hl hk hm = record {
    at = λ c d hc.
        bind (hm.at c d hc) (λ v w r.
        (in_list_scope_sim hl (record {
          at = λ c d hc s t h.
              at_break_sim (bind (selected_sim hk (default_sim hk) r hc) (λ xs ys hx. (run_all_sim hx).at c d hc) s t h);
        })).at c d hc);
  }

  -- try

  catch_sim : {v w : Value} → V P v w → (x y : Name) → Maybe (SameCell P) (catch_cell v x) (catch_cell w y)
  catch_sim r x y = both (record { writable = refl; held = both r })

  handled_sim : (param : Option (Option Name)) {m n : Meaning} {c d : Context} {o p : Outcome Value} → M P m n → C P c d → Sim P (V P) o p → Sim P (V P) (handled param m c o) (handled (new_handler P.to param) n d p)
  handled_sim None hm hc h = h
  handled_sim (Some x) hm hc (jump (thrown {w = w} r) h) = in_scope_sim (is_param (new_option P.to x)) (λ e. catch_cell w) (param_sim P x) (λ e f he y. catch_sim r y (P.to y)) hm.at hc _ _ h
  handled_sim (Some x) hm hc (jump (broken l) h) = jump (broken l) h
  handled_sim (Some x) hm hc (jump (continued l) h) = jump (continued l) h
  handled_sim (Some x) hm hc (jump (returned r) h) = jump (returned r) h
  handled_sim (Some x) hm hc (done r h) = done r h
  handled_sim (Some x) hm hc (outside o) = outside _
  handled_sim (Some x) hm hc (cut o) = cut _

  with_state_sim : {o p : Outcome Value} {s t : State} → S P s t → Sim P (V P) o p → Sim P (V P) (with_state o s) (with_state p t)
  with_state_sim h (done r g) = done r h
  with_state_sim h (jump r g) = jump r h
  with_state_sim h (outside o) = outside _
  with_state_sim h (cut o) = cut _

  resume_sim : {o p q r : Outcome Value} → Sim P (V P) o p → Sim P (V P) q r → Sim P (V P) (resume o q) (resume p r)
  resume_sim h (done q g) = with_state_sim g h
  resume_sim h (jump q g) = jump q g
  resume_sim h (outside o) = outside _
  resume_sim h (cut o) = cut _

  finally_sim : {m n : Meaning} {c d : Context} {o p : Outcome Value} → M P m n → C P c d → Sim P (V P) o p → Sim P (V P) (finally m c o) (finally n d p)
  finally_sim hm hc (done r h) = resume_sim (done r h) (hm.at _ _ hc _ _ h)
  finally_sim hm hc (jump r h) = resume_sim (jump r h) (hm.at _ _ hc _ _ h)
  finally_sim hm hc (outside o) = outside _
  finally_sim hm hc (cut o) = cut _

  pub try_sim : (param : Option (Option Name)) (b b' h h' f f' : Meaning) → M P b b' → M P h h' → M P f f' → M P (try_catch param b h f) (try_catch (new_handler P.to param) b' h' f')
  unfolding try_catch
  try_sim param b b' h h' f f' hb hh hf = record { at = λ c d hc s t hs. finally_sim hf hc (handled_sim param hh hc (hb.at c d hc s t hs)) }

  -- declarations

  pub declare_sim : (kind : VarDeclKind) (x : Name) {ms ns : List Meaning} → Each (M P) ms ns → M P (declare kind x ms) (declare kind (P.to x) ns)
  unfolding declare
  declare_sim Var x none = record { at = λ c d hc. gives_sim undefined }
  declare_sim Var x (more h hs) = record { at = λ c d hc. bind (h.at c d hc) (λ v w r. initialise_sim x r hc) }
  declare_sim Let x none = record { at = λ c d hc. initialise_sim x undefined hc }
  declare_sim Let x (more h hs) = record { at = λ c d hc. bind (h.at c d hc) (λ v w r. initialise_sim x r hc) }
  declare_sim Const x none = record { at = λ c d hc. initialise_sim x undefined hc }
  declare_sim Const x (more h hs) = record { at = λ c d hc. bind (h.at c d hc) (λ v w r. initialise_sim x r hc) }

  copied_sim : {s t : State} → S P s t → (x : Name) {o p : Option ℕ} → o ≡ p → Maybe (SameCell P) (cell_of s x o) (cell_of t (P.to x) p)
  copied_sim {s} {t} h x {o} {p} e = subst (λ p. Maybe (SameCell P) (cell_of s x o) (cell_of t (P.to x) p)) e (go o)
    where
      go : (o : Option ℕ) → Maybe (SameCell P) (cell_of s x o) (cell_of t (P.to x) o)
      go None = neither
      go (Some k) = cell_sim h x k

  pub copies_sim : (names names' : List Declared) → ((x : Name) → is_found x names ≡ is_found (P.to x) names') → (c d : Context) → C P c d → Ran P (C P) (copies names c) (copies names' d)
  unfolding copies
  copies_sim names names' hx c d hc = λ s t h.
      in_scope_sim (λ x. is_found x names') (λ e x. copied_cell t d.env x) hx (λ e f he x. copied_sim h x (hc.env.at x)) (λ c d hd. gives_sim hd) hc s t h

  pub for_loop_sim : (n : ℕ) {t u : Tree} → SameHead P t u → (i i' b b' x x' y y' : Meaning) → M P i i' → M P b b' → M P x x' → M P y y' → M P (for_loop n t i b x y) (for_loop n u i' b' x' y')
  unfolding for_loop
  for_loop_sim n {t} {u} hh i i' b b' x x' y y' hi hb hx hy = record {
    at = λ c d hc.
        in_scope_sim (λ x. is_found x (head_names u)) (λ e x. cell_of_declared e d.this (found x (head_names u)))
        (λ x. is_found_same x (P.to x) (head_names t) (head_names u) (hh.names x))
        (λ e f he x. declared_cell_sim he hc.this (hh.names x))
        (λ c d hd. bind (hi.at _ _ (plain_sim hd)) (λ v w r. bind (copies_sim _ _ hh.copied c d hd) (λ c d hd. turns_sim n hb hy (copies_sim _ _ hh.copied) hx hd)))
        hc;
  }
