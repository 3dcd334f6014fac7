-- Calls of rewritten functions do what the functions did, at each depth.
use Rattle.std.proofs.Common.{◌≡◌, ℕ, zero, suc, Bool, true, false, not, List, [], ◌∷◌, refl, sym, ap, subst, ◌∙◌, if◌then◌else◌}
use Rattle.std.proofs.lemmas.Bool.{true≢false, false≢true, and_parts}
use Rattle.swc_ast.specs.Labels.{is_block, is_params, is_body}
use Rattle.swc_ast.specs.declared.Span.{Span}
use Rattle.swc_ast.specs.Tree.{Name, Text, Label, Fn, Arrow, Method, FnDecl, ExportDefaultFn, Params, Body, Param, Tree, node, Forest, ε, ◌⊳◌, label_of}
use Rattle.swc_ast.specs.Value.{Env, Value, Undefined, Null, NaN, TypeError, ScriptThis, Truth, Num, Text as TextValue, Items, Record, Function, Token, Own, Values, Done, Run, Context, Meaning}
use Rattle.swc_ast.specs.Scope.{has_name, param_name, param_names, body_declares}
use Rattle.swc_ast.specs.Meaning.{leaves, eval, gives}
use Rattle.swc_ast.specs.Call.{first_value, rest_values, is_undefined, param_value, bind_params, statements_of, in_env, run_body, run_function, run_parts, run_children, behind_key, invoke, call_function, call_at}
use Rattle.swc_ast.specs.Resolved.{body_of as function_body}
use Rattle.meaning_proofs.specs.Names.{Names, empty}
use Rattle.meaning_proofs.specs.Exact.{Evaluation, run_at, GivesUndefined}
use Rattle.meaning_proofs.specs.Roles.{rewrites_each, Clean, SameBody, Scoped}
use Rattle.meaning_proofs.specs.Rewrites.{Kept, kept, kept_list, drop_own, Rewrites, All, nil, cons}
use Rattle.meaning_proofs.proofs.Relation.{Pairing, Each, none, more, neither, both, SameEnv, V, Vs, undefined, function, no_value, value, same_held, alike, C, cut, Ran, M, Sim, done}
use Rattle.meaning_proofs.proofs.Names.{other_name, other_name'}
use Rattle.meaning_proofs.proofs.Combine.{gives_sim, leaves_sim, if_sim, bind}
use Rattle.meaning_proofs.proofs.Stores.{free, initialise_sim}
use Rattle.meaning_proofs.proofs.Scopes.{in_scope_sim}
use Rattle.meaning_proofs.proofs.Parts.{K}
use Rattle.meaning_proofs.proofs.Loops.{at_return_sim, at_call_sim}
use Rattle.meaning_proofs.proofs.Statements.{no_param as no_own_param}
use Rattle.meaning_proofs.proofs.Declared.{pairing, ListRole, nil_role, view, listed_role}
use Rattle.meaning_proofs.proofs.Steps.{refined_sim}
use Rattle.meaning_proofs.proofs.Trees.{rewrites_sim, all_sim, listed_sim}
use Rattle.meaning_proofs.proofs.Bodies.{ParamsOf, params, no_params, BodyOf, body, no_body, ParamOf, param, param_default, no_param, params_of, body_of, param_of, param_names_same, binds_same, cells_same, cells_born}

-- arguments

module _ {P : Pairing} where
  first_sim : {vs ws : Values} → Vs P vs ws → V P (first_value vs) (first_value ws)
  first_sim no_value = undefined
  first_sim (value r rs) = r

  rest_sim : {vs ws : Values} → Vs P vs ws → Vs P (rest_values vs) (rest_values ws)
  rest_sim no_value = no_value
  rest_sim (value r rs) = rs

  same_undefined : {v w : Value} → V P v w → is_undefined v ≡ is_undefined w
  same_undefined undefined = refl
  same_undefined _ = refl

  param_value_sim : {ms ns : List Meaning} {v w : Value} {c d : Context} → Each (M P) ms ns → V P v w → C P c d → Ran P (V P) (param_value ms v c) (param_value ns w d)
  param_value_sim none r hc = gives_sim r
  param_value_sim (more h hs) r hc = if_sim (same_undefined r) (h.at _ _ hc) (gives_sim r)

  in_env_sim : {e f : Env} {v w : Value} → SameEnv P e f → V P v w → C P (in_env e v) (in_env f w)
  in_env_sim he r = record { env = he; this = r; labels = refl }

  -- a left side that is not well formed
  from_leaves : {m : Run Value} (n : Run Value) → m ≡ leaves → Ran P (V P) m n
  from_leaves n e = subst (λ (m : Run Value). Ran P (V P) m n) (sym e) (leaves_sim n)

undefined_is : (v : Value) → is_undefined v ≡ true → v ≡ Undefined
undefined_is Undefined e = refl
undefined_is Null e = absurd (false≢true e)
undefined_is NaN e = absurd (false≢true e)
undefined_is TypeError e = absurd (false≢true e)
undefined_is ScriptThis e = absurd (false≢true e)
undefined_is (Truth b) e = absurd (false≢true e)
undefined_is (Num z) e = absurd (false≢true e)
undefined_is (TextValue t) e = absurd (false≢true e)
undefined_is (Items vs) e = absurd (false≢true e)
undefined_is (Record fs) e = absurd (false≢true e)
undefined_is (Function f e t) q = absurd (false≢true q)
undefined_is (Token n b) e = absurd (false≢true e)
undefined_is (Own k) e = absurd (false≢true e)

-- parts that are not well formed

no_statements : (t : Tree) → is_body (label_of t) ≡ false → statements_of t ≡ ε
no_statements (node Body ss ts) e = absurd (true≢false e)
no_statements (node _ ss ts) e = refl

module _ (does : Tree → Meaning) where
  no_bind : (t : Tree) (ts : Forest) (vs : Values) (c : Context) → param_name (label_of t) ≡ [] → bind_params does (t ⊳ ts) vs c ≡ leaves
  unfolding bind_params
  no_bind (node (Param x) ss cs) ts vs c p = cc
  no_bind (node _ ss cs) ts vs c p = refl

  no_run : (t : Tree) → is_body (label_of t) ≡ false → run_body does t ≡ does t
  no_run (node Body ss ts) e = absurd (true≢false e)
  no_run (node _ ss ts) e = refl

  bad_params : (t b : Tree) (vs : Values) (c : Context) → is_params (label_of t) ≡ false → run_parts does t b vs c ≡ leaves
  bad_params (node Params ss ps) b vs c e = absurd (true≢false e)
  bad_params (node _ ss ps) b vs c e = refl

  bad_list : (l : Label) (ss : List Span) (cs : Forest) (e : Env) (u t : Value) (vs : Values) → is_block l ≡ true → invoke does (node l ss cs) e u t vs ≡ leaves
  unfolding invoke
  bad_list (Fn o) ss cs e u t vs q = absurd (false≢true q)
  bad_list Arrow ss cs e u t vs q = absurd (false≢true q)
  bad_list (FnDecl x) ss cs e u t vs q = absurd (false≢true q)
  bad_list Method ss cs e u t vs q = absurd (false≢true q)
  bad_list (ExportDefaultFn o) ss cs e u t vs q = absurd (false≢true q)
  bad_list _ ss cs e u t vs q = refl

only_body : (b : Tree) → statements_of b ≡ function_body (b ⊳ ε)
only_body (node Body ss ts) = refl
only_body (node _ ss ts) = refl

module _ {N : Names} {mark : ℕ} {does : Evaluation} {ignores : Text → Bool} where
  body_role : {t u : Tree} → BodyOf N mark does t u → ListRole (pairing N mark does ignores) (statements_of t) (statements_of u)
  body_role (body h) = listed_role h
  body_role (no_body {t} {u} p q) =
      subst (λ ts. ListRole (pairing N mark does ignores) ts (statements_of u)) (sym (no_statements t p)) (subst (λ us. ListRole (pairing N mark does ignores) ε us) (sym (no_statements u q)) nil_role)

  -- a default that gives undefined, and none
  default_sim : (n d : ℕ) (t u : Tree) → M (pairing N mark does ignores) (run_at does n d t) (run_at (eval mark) n d u) → GivesUndefined mark u → {v w : Value} → V (pairing N mark does ignores) v w → {c c' : Context} → C (pairing N mark does ignores) c c'
      → Ran (pairing N mark does ignores) (V (pairing N mark does ignores)) (param_value (run_at does n d t ∷ []) v c) (param_value [] w c')
  default_sim n d t u h y {v} {w} r {c} {c'} hc s s' hs = go (is_undefined v) refl
    where
      go : (b : Bool) → is_undefined v ≡ b → Sim (pairing N mark does ignores) (V (pairing N mark does ignores)) ((if b then run_at does n d t c else gives v) s) (Done w s')
      go false e = done r hs
      go true e = subst (λ w. Sim (pairing N mark does ignores) (V (pairing N mark does ignores)) (run_at does n d t c s) (Done w s')) (sym (undefined_is w (sym (same_undefined r) ∙ e))) (refined_sim (h.at c c' hc s s' hs) (y.by n d c' s'))

  module _ (n d : ℕ) (hk : K (pairing N mark does ignores) (call_at (does n) d) (call_at (eval mark n) d)) where
    bind_one : {t u : Tree} → ParamOf N mark does t u → (ts us : Forest) → {vs ws : Values} → Vs (pairing N mark does ignores) vs ws → {c c' : Context} → C (pairing N mark does ignores) c c'
        → Ran (pairing N mark does ignores) (V (pairing N mark does ignores)) (bind_params (run_at does n d) ts (rest_values vs) c) (bind_params (run_at (eval mark) n d) us (rest_values ws) c')
        → Ran (pairing N mark does ignores) (V (pairing N mark does ignores)) (bind_params (run_at does n d) (t ⊳ ts) vs c) (bind_params (run_at (eval mark) n d) (u ⊳ us) ws c')
    unfolding bind_params
    bind_one (param {x} keeps h) ts us rs hc hn =
        bind (param_value_sim (all_sim n d hk h) (first_sim rs) hc) (λ v w r. bind (initialise_sim x keeps.0 (free keeps.1) r hc) (λ a b q. hn))
    bind_one (param_default {x} e g r y) ts us rs hc hn =
        bind (default_sim n d _ _ (rewrites_sim n d hk r) y (first_sim rs) hc) (λ v w q. bind (initialise_sim x e (free g) q hc) (λ a b p. hn))
    bind_one (no_param {t} {u} p) ts us {vs} {ws} rs {c} {c'} hc hn = from_leaves _ (no_bind (run_at does n d) t ts vs c p)

    bind_params_sim : {ps qs : Forest} → All N mark does false ps qs → {vs ws : Values} → Vs (pairing N mark does ignores) vs ws → {c c' : Context} → C (pairing N mark does ignores) c c'
        → Ran (pairing N mark does ignores) (V (pairing N mark does ignores)) (bind_params (run_at does n d) ps vs c) (bind_params (run_at (eval mark) n d) qs ws c')
    unfolding bind_params
    bind_params_sim nil rs hc = gives_sim undefined
    bind_params_sim (cons {ts = ts} {us} r hs) rs hc = bind_one (param_of (view r)) ts us rs hc (bind_params_sim hs (rest_sim rs) hc)

    run_body_sim : {t u : Tree} → Rewrites N mark does t u → BodyOf N mark does t u → M (pairing N mark does ignores) (run_body (run_at does n d) t) (run_body (run_at (eval mark) n d) u)
    run_body_sim r (body h) = record { at = λ c c' hc s t hs. at_return_sim ((listed_sim n d hk h).at c c' hc s t hs) }
    run_body_sim r (no_body {t} {u} p q) =
        subst (λ (m : Meaning). M (pairing N mark does ignores) m (run_body (run_at (eval mark) n d) u)) (sym (no_run (run_at does n d) t p))
        (subst (λ (m : Meaning). M (pairing N mark does ignores) (run_at does n d t) m) (sym (no_run (run_at (eval mark) n d) u q)) (rewrites_sim n d hk r))

    run_function_sim : {ps qs : Forest} → All N mark does false ps qs → {b b' : Tree} → Rewrites N mark does b b' → ((x : Name) → N.slack x ≡ true → has_name x (param_names ps) ≡ false → body_declares (statements_of b) x ≡ body_declares (statements_of b') x) → {vs ws : Values} → Vs (pairing N mark does ignores) vs ws → {c c' : Context} → C (pairing N mark does ignores) c c'
        → Ran (pairing N mark does ignores) (V (pairing N mark does ignores)) (run_function (run_at does n d) ps b vs c) (run_function (run_at (eval mark) n d) qs b' ws c')
    unfolding run_function
    run_function_sim {ps} hp {b} {b'} r sc rs hc =
        let h : ListRole (pairing N mark does ignores) (statements_of b) (statements_of b') = body_role (body_of (view r)) in
        in_scope_sim
        (λ x keeps. ap (has_name x) (param_names_same hp))
        (λ e f he x keeps. both (alike refl neither))
        (λ e x g q. empty refl)
        (λ c c' hd. bind (bind_params_sim hp rs hd) (λ v w q.
        in_scope_sim
        (λ x keeps. binds_same h x keeps (has_name x (param_names ps)) _ (ap (has_name x) (param_names_same hp)) (sc x))
        (cells_same h hd.this)
        (λ e x g q. cells_born h _ e x g ((and_parts (not (has_name x (param_names ps))) (body_declares (statements_of b) x) q).1))
        (run_body_sim r (body_of (view r))).at
        hd))
        hc

    parts_sim : {p p' : Tree} → ParamsOf N mark does p p' → {b b' : Tree} → Rewrites N mark does b b' → SameBody N (p ⊳ b ⊳ ε) (p' ⊳ b' ⊳ ε) → {vs ws : Values} → Vs (pairing N mark does ignores) vs ws → {c c' : Context} → C (pairing N mark does ignores) c c'
        → Ran (pairing N mark does ignores) (V (pairing N mark does ignores)) (run_parts (run_at does n d) p b vs c) (run_parts (run_at (eval mark) n d) p' b' ws c')
    parts_sim (params hp) {b} {b'} r sc rs hc = run_function_sim hp r (λ x z e. ap (λ ts. body_declares ts x) (only_body b) ∙ sc.binds x z e ∙ sym (ap (λ ts. body_declares ts x) (only_body b'))) rs hc
    parts_sim (no_params {t} q) {b} r sc {vs} rs {c} hc = from_leaves _ (bad_params (run_at does n d) t b vs c q)

    children_sim : {cs us : Forest} → All N mark does false cs us → SameBody N cs us → {vs ws : Values} → Vs (pairing N mark does ignores) vs ws → {c c' : Context} → C (pairing N mark does ignores) c c'
        → Ran (pairing N mark does ignores) (V (pairing N mark does ignores)) (run_children (run_at does n d) cs vs c) (run_children (run_at (eval mark) n d) us ws c')
    children_sim (cons rp (cons rb nil)) sc rs hc = parts_sim (params_of (view rp)) rb sc rs hc
    children_sim nil sc rs hc = leaves_sim _
    children_sim (cons rp nil) sc rs hc = leaves_sim _
    children_sim (cons rp (cons rb (cons r h))) sc rs hc = leaves_sim _

    method_sim : {cs us : Forest} → All N mark does false cs us → SameBody N (behind_key cs) (behind_key us) → {vs ws : Values} → Vs (pairing N mark does ignores) vs ws → {c c' : Context} → C (pairing N mark does ignores) c c'
        → Ran (pairing N mark does ignores) (V (pairing N mark does ignores)) (run_children (run_at does n d) (behind_key cs) vs c) (run_children (run_at (eval mark) n d) (behind_key us) ws c')
    method_sim nil sc rs hc = leaves_sim _
    method_sim (cons r h) sc rs hc = children_sim h sc rs hc

    plain_invoke : (l : Label) {ss rs : List Span} {cs us : Forest} → rewrites_each l ≡ true → Clean N mark l → Scoped N l cs us → All N mark does false cs us → Kept N mark does (node l ss cs) (node l rs us) → {e f : Env} {u u' t t' : Value} {vs ws : Values}
        → SameEnv (pairing N mark does ignores) e f → V (pairing N mark does ignores) u u' → V (pairing N mark does ignores) t t' → Vs (pairing N mark does ignores) vs ws
        → Ran (pairing N mark does ignores) (V (pairing N mark does ignores)) (invoke (run_at does n d) (node l ss cs) e u t vs) (invoke (run_at (eval mark) n d) (node l rs us) f u' t' ws)
    unfolding invoke
    plain_invoke (Fn o) p c sc h k he hu ht rs =
        in_scope_sim (λ x keeps. refl) (λ e f h' x keeps. both (alike refl (both (same_held (function k he hu))))) (λ e x g b. absurd (no_own_param N o c x g b)) (λ c c' hc. children_sim h sc rs hc) (in_env_sim he ht)
    plain_invoke Arrow p c sc h k he hu ht rs = children_sim h sc rs (in_env_sim he hu)
    plain_invoke Method p c sc h k he hu ht rs = method_sim h sc rs (in_env_sim he ht)
    plain_invoke (FnDecl x) p c sc h k he hu ht rs = children_sim h sc rs (in_env_sim he ht)
    plain_invoke (ExportDefaultFn o) p c sc h k he hu ht rs = children_sim h sc rs (in_env_sim he ht)
    plain_invoke _ p c sc h k he hu ht rs = leaves_sim _

    invoke_sim : {f g : Tree} {e e' : Env} {u u' t t' : Value} {vs ws : Values} → Kept N mark does f g → SameEnv (pairing N mark does ignores) e e' → V (pairing N mark does ignores) u u' → V (pairing N mark does ignores) t t' → Vs (pairing N mark does ignores) vs ws
        → Ran (pairing N mark does ignores) (V (pairing N mark does ignores)) (invoke (run_at does n d) f e u t vs) (invoke (run_at (eval mark) n d) g e' u' t' ws)
    unfolding invoke
    invoke_sim (kept l p q c o sc h) he hu ht rs = plain_invoke l p c sc h (kept l p q c o sc h) he hu ht rs
    invoke_sim {e = e} {u = u} {t = t} {vs = vs} (kept_list l {ss} {cs = cs} p q h) he hu ht rs = from_leaves _ (bad_list (run_at does n d) l ss cs e u t vs p)
    invoke_sim (drop_own {x} q a g sc h) he hu ht rs =
        in_scope_sim (λ y keeps. other_name' N.dropped x y a keeps) (λ e f h' y keeps. both (alike refl (both (same_held (function (drop_own q a g sc h) he hu))))) (λ e y f b. absurd (false≢true (sym (other_name N.guarded x y g f) ∙ b))) (λ c c' hc. children_sim h sc rs hc) (in_env_sim he ht)
    invoke_sim _ he hu ht rs = leaves_sim _

    call_function_sim : {f g t u : Value} {vs ws : Values} → V (pairing N mark does ignores) f g → V (pairing N mark does ignores) t u → Vs (pairing N mark does ignores) vs ws → Ran (pairing N mark does ignores) (V (pairing N mark does ignores)) (call_function (run_at does n d) f t vs) (call_function (run_at (eval mark) n d) g u ws)
    call_function_sim (function k he r) q rs = invoke_sim k he r q rs
    call_function_sim _ q rs = leaves_sim _

  pub call_at_sim : (n d : ℕ) → K (pairing N mark does ignores) (call_at (does n) d) (call_at (eval mark n) d)
  unfolding call_at
  call_at_sim n zero = record { by = λ r q rs s t k. cut _ }
  call_at_sim n (suc d) = record { by = λ r q rs s t h. at_call_sim (call_function_sim n d (call_at_sim n d) r q rs s t h) }
