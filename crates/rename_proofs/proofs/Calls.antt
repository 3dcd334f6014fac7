-- Calls of renamed functions do what the functions did, at each depth.
use Rattle.std.proofs.Common.{◌≡◌, ℕ, zero, suc, Bool, not, ◌&&◌, List, Option, refl, sym, ap, ap₂, subst, ◌∙◌}
use Rattle.swc_ast.specs.Tree.{Name, Fn, Arrow, Method, FnDecl, ExportDefaultFn, Params, Body, Param, Tree, node, Forest, ε, ◌⊳◌}
use Rattle.swc_ast.specs.Value.{Env, Value, Function, Values, Cell, Context, Meaning}
use Rattle.swc_ast.specs.Scope.{has_name, param_names}
use Rattle.swc_ast.specs.Meaning.{◌>>=◌, Caller, in_scope, eval, is_param}
use Rattle.swc_ast.specs.Call.{first_value, rest_values, is_undefined, param_value, bind_params, unset, var_cell, body_cells, body_binds, statements_of, own_name_cell, in_env, run_body, run_function, run_parts, run_children, behind_key, invoke, call_function, call_at}
use Rattle.rename_rules.specs.Renamed.{new_option, renamed, renamed_all}
use Rattle.rename_proofs.proofs.Relation.{Pairing, Each, none, more, Maybe, neither, both, SameEnv, Keeps, V, Vs, undefined, function, no_value, value, SameCell, C, cut, Ran, M}
use Rattle.rename_proofs.proofs.Combine.{gives_sim, leaves_sim, if_sim, bind}
use Rattle.rename_proofs.proofs.Stores.{initialise_sim}
use Rattle.rename_proofs.proofs.Scopes.{in_scope_sim}
use Rattle.rename_proofs.proofs.Parts.{K, run_all_sim}
use Rattle.rename_proofs.proofs.Loops.{at_return_sim, at_call_sim}
use Rattle.rename_proofs.proofs.Statements.{declared_cell_sim, param_sim}
use Rattle.rename_proofs.proofs.Declared.{has_new, same_list, declares_new, params_new}
use Rattle.rename_proofs.proofs.Trees.{tree_sim, each_sim}

-- arguments

module _ {P : Pairing} where
  first_sim : {vs ws : Values} → Vs P vs ws → V P (first_value vs) (first_value ws)
  first_sim no_value = undefined
  first_sim (value r rs) = r

  rest_sim : {vs ws : Values} → Vs P vs ws → Vs P (rest_values vs) (rest_values ws)
  rest_sim no_value = no_value
  rest_sim (value r rs) = rs

  same_undefined : {v w : Value} → V P v w → is_undefined v ≡ is_undefined w
  same_undefined undefined = refl
  same_undefined _ = refl

  param_value_sim : {ms ns : List Meaning} {v w : Value} {c d : Context} → Each (M P) ms ns → V P v w → C P c d → Ran P (V P) (param_value ms v c) (param_value ns w d)
  param_value_sim none r hc = gives_sim r
  param_value_sim (more h hs) r hc = if_sim (same_undefined r) (h.at _ _ hc) (gives_sim r)

  pub in_env_sim : {e f : Env} {v w : Value} → SameEnv P e f → V P v w → C P (in_env e v) (in_env f w)
  in_env_sim he r = record { env = he; this = r; labels = refl }

  var_cell_sim : {o p : Option Cell} → Maybe (SameCell P) o p → Maybe (SameCell P) (var_cell o) (var_cell p)
  var_cell_sim neither = both (record { writable = refl; held = both undefined })
  var_cell_sim (both q) = both q

module _ (P : Pairing) where
  -- the cells of a body
  pub cells_sim : (ts : Forest) {v w : Value} → V P v w → (e f : Env) → SameEnv P e f → (x : Name) → Maybe (SameCell P) (body_cells ts v e x) (body_cells (renamed_all P.to ts) w f (P.to x))
  cells_sim ts r e f he x = var_cell_sim (declared_cell_sim he r ((same_list P ts).at x))

  statements_new : (t : Tree) → statements_of (renamed P.to t) ≡ renamed_all P.to (statements_of t)
  unfolding renamed
  statements_new (node Body ss ts) = refl
  statements_new (node _ ss cs) = refl

  binds_body : (ps ts : Forest) (x : Name) → body_binds (param_names ps) ts x ≡ body_binds (param_names (renamed_all P.to ps)) (renamed_all P.to ts) (P.to x)
  binds_body ps ts x = ap₂ (λ (a b : Bool). not a && b) (has_new P x (param_names ps) ∙ ap (has_name (P.to x)) (sym (params_new P ps))) (declares_new P ts x)

  module _ (n : ℕ) {call call' : Caller} (hk : K P call call') where
    bind_params_sim : (ps : Forest) {vs ws : Values} → Vs P vs ws → {c d : Context} → C P c d → Ran P (V P) (bind_params (eval P.mark n call) ps vs c) (bind_params (eval P.mark n call') (renamed_all P.to ps) ws d)
    unfolding bind_params renamed
    bind_params_sim ε rs hc = gives_sim undefined
    bind_params_sim (node (Param x) ss cs ⊳ ts) rs hc = bind (param_value_sim (each_sim P n hk cs) (first_sim rs) hc) (λ v w r. bind (initialise_sim x r hc) (λ a b q. bind_params_sim ts (rest_sim rs) hc))
    bind_params_sim (node _ ss cs ⊳ ts) rs hc = leaves_sim _

    body_run_sim : (t : Tree) → M P (run_body (eval P.mark n call) t) (run_body (eval P.mark n call') (renamed P.to t))
    unfolding renamed
    body_run_sim (node Body ss ts) = record { at = λ c d hc s t h. at_return_sim ((run_all_sim (each_sim P n hk ts)).at c d hc s t h) }
    body_run_sim (node l ss cs) = tree_sim P n hk (node l ss cs)

    run_function_sim : (ps : Forest) (b : Tree) {vs ws : Values} → Vs P vs ws → {c d : Context} → C P c d → Ran P (V P) (run_function (eval P.mark n call) ps b vs c) (run_function (eval P.mark n call') (renamed_all P.to ps) (renamed P.to b) ws d)
    unfolding run_function
    run_function_sim ps b {vs} {ws} rs {c} {d} hc =
        subst (λ ts. Ran P (V P) (run_function (eval P.mark n call) ps b vs c)
        (in_scope (λ x. has_name x (param_names (renamed_all P.to ps))) (λ e x. unset) (λ d.
        bind_params (eval P.mark n call') (renamed_all P.to ps) ws d >>= λ v.
        in_scope (body_binds (param_names (renamed_all P.to ps)) ts) (body_cells ts d.this) (run_body (eval P.mark n call') (renamed P.to b)) d) d))
        (sym (statements_new b))
        (in_scope_sim (λ x. has_name x (param_names (renamed_all P.to ps))) (λ e x. unset)
        (λ x. has_new P x (param_names ps) ∙ ap (has_name (P.to x)) (sym (params_new P ps)))
        (λ e f he x. both (record { writable = refl; held = neither }))
        (λ c d hd. bind (bind_params_sim ps rs hd) (λ v w q.
        in_scope_sim (body_binds (param_names (renamed_all P.to ps)) (renamed_all P.to (statements_of b))) (body_cells (renamed_all P.to (statements_of b)) d.this)
        (binds_body ps (statements_of b))
        (cells_sim (statements_of b) hd.this)
        (body_run_sim b).at
        hd))
        hc)

    parts_sim : (p b : Tree) {vs ws : Values} → Vs P vs ws → {c d : Context} → C P c d → Ran P (V P) (run_parts (eval P.mark n call) p b vs c) (run_parts (eval P.mark n call') (renamed P.to p) (renamed P.to b) ws d)
    unfolding renamed
    parts_sim (node Params ss ps) b rs hc = run_function_sim ps b rs hc
    parts_sim (node _ ss ps) b rs hc = leaves_sim _

    children_sim : (cs : Forest) {vs ws : Values} → Vs P vs ws → {c d : Context} → C P c d → Ran P (V P) (run_children (eval P.mark n call) cs vs c) (run_children (eval P.mark n call') (renamed_all P.to cs) ws d)
    unfolding renamed
    children_sim (p ⊳ b ⊳ ε) rs hc = parts_sim p b rs hc
    children_sim ε rs hc = leaves_sim _
    children_sim (p ⊳ ε) rs hc = leaves_sim _
    children_sim (p ⊳ b ⊳ t ⊳ ts) rs hc = leaves_sim _

    method_sim : (cs : Forest) {vs ws : Values} → Vs P vs ws → {c d : Context} → C P c d → Ran P (V P) (run_children (eval P.mark n call) (behind_key cs) vs c) (run_children (eval P.mark n call') (behind_key (renamed_all P.to cs)) ws d)
    unfolding renamed
    method_sim ε rs hc = leaves_sim _
    method_sim (k ⊳ cs) rs hc = children_sim cs rs hc

    invoke_new : (f : Tree) {e e' : Env} {u u' t t' : Value} {vs ws : Values} → SameEnv P e e' → V P u u' → V P t t' → Vs P vs ws → Ran P (V P) (invoke (eval P.mark n call) f e u t vs) (invoke (eval P.mark n call') (renamed P.to f) e' u' t' ws)
    unfolding invoke renamed
    invoke_new (node (Fn o) ss cs) {e' = e'} {u' = u'} he hu ht rs =
        in_scope_sim (is_param (new_option P.to o)) (λ d. own_name_cell (Function (node (Fn (new_option P.to o)) ss (renamed_all P.to cs)) e' u'))
        (param_sim P o)
        (λ e f h x. both (record { writable = refl; held = both (function (record { is = refl }) he hu) }))
        (λ c d hc. children_sim cs rs hc) (in_env_sim he ht)
    invoke_new (node Arrow ss cs) he hu ht rs = children_sim cs rs (in_env_sim he hu)
    invoke_new (node Method ss cs) he hu ht rs = method_sim cs rs (in_env_sim he ht)
    invoke_new (node (FnDecl x) ss cs) he hu ht rs = children_sim cs rs (in_env_sim he ht)
    invoke_new (node (ExportDefaultFn o) ss cs) he hu ht rs = children_sim cs rs (in_env_sim he ht)
    invoke_new (node _ ss cs) he hu ht rs = leaves_sim _

    invoke_sim : {f g : Tree} → Keeps P f g → {e e' : Env} {u u' t t' : Value} {vs ws : Values} → SameEnv P e e' → V P u u' → V P t t' → Vs P vs ws → Ran P (V P) (invoke (eval P.mark n call) f e u t vs) (invoke (eval P.mark n call') g e' u' t' ws)
    invoke_sim {f} k {e} {e'} {u} {u'} {t} {t'} {vs} {ws} he hu ht rs = subst (λ g. Ran P (V P) (invoke (eval P.mark n call) f e u t vs) (invoke (eval P.mark n call') g e' u' t' ws)) (sym k.is) (invoke_new f he hu ht rs)

    call_function_sim : {f g t u : Value} {vs ws : Values} → V P f g → V P t u → Vs P vs ws → Ran P (V P) (call_function (eval P.mark n call) f t vs) (call_function (eval P.mark n call') g u ws)
    call_function_sim (function k he r) q rs = invoke_sim k he r q rs
    call_function_sim _ q rs = leaves_sim _

  pub call_at_sim : (n d : ℕ) → K P (call_at (eval P.mark n) d) (call_at (eval P.mark n) d)
  unfolding call_at
  call_at_sim n zero = record { by = λ r q rs s t k. cut _ }
  call_at_sim n (suc d) = record { by = λ r q rs s t h. at_call_sim (call_function_sim n (call_at_sim n d) r q rs s t h) }
