-- Modules that export what a name stands for in its place.
use Rattle.std.proofs.Common.{◌≡◌, ℕ, suc, Bool, true, false, ◌||◌, List, [], ◌∷◌, ◌++◌, Some, None, refl, sym, ap, subst, cond, ◌∙◌, bytes_eq}
use Rattle.swc_ast.specs.declared.Span.{Span}
use Rattle.swc_ast.specs.Tree.{Name, Text, Module, ExportNamed, node, Forest}
use Rattle.swc_ast.specs.Value.{Value, Undefined, Values, State, Broken, Continued, Returned, Thrown, Outcome, Done, Run, Context, Meaning}
use Rattle.swc_ast.specs.Scope.{Declared, has_name, found, is_found, declared, declared_by, vars_all, vars, import_names, import_names_of}
use Rattle.swc_ast.specs.Meaning.{◌>>=◌, gives, leaves, Caller, in_scope, cell_of_declared, read, read_bound, eval, run_all, act}
use Rattle.swc_ast.specs.Call.{each_of, var_cell, in_env, call_at}
use Rattle.swc_ast.specs.Run.{World as Surroundings, Callee, Export, Handed, LaterCall, Answered, Failed, Ending, Finished, Observation, Observed, Sees, LeftCore, imports_at, item_imports, all_are_data, import_cell, exported, item_exports, specifier_exports, specifier_export, export_text, show_exports, export_name, export_value, call_callee, answer_of, answer_to, at_moment, answers, ends, start, finish, once, sources, source_of, run_items, observe_by}
use Rattle.link_proofs.specs.Links.{Links, Proper, linked_act, linked_eval, GoodWhole, good_module, Ground, Respecified, respecified_end, respecified_same, respecified_as, Reexports, reexports_end, reexports_same, reexports_item}
use Rattle.meaning_proofs.proofs.Imports.{imports_are}
use Rattle.link_proofs.proofs.State.{World, Any, grown_on, Fine, Fines, fines_up, FineContext, context_up, later_itself, Nothing, Ends, done, jump, outside, cut, Runs, SafeCalls, after, gives_safe, leaves_safe, bind}
use Rattle.link_proofs.proofs.Stores.{read_bound_safe}
use Rattle.link_proofs.proofs.Fors.{bound_read}
use Rattle.link_proofs.proofs.Acts.{LinkedRead, same_read, no_read, linked_read}
use Rattle.link_proofs.proofs.Calls.{call_at_safe}
use Rattle.link_proofs.proofs.Runs.{all_loose, at_moment_safe, shown_safe, call_own_safe, call_handle_safe, answer_safe, if_data_safe, whole_scope, ends_seen, if_data, items_then}

-- two lists of exports: some names stand for those of the first
pub data LinkedExports (L : Links) : List (Text × Name) → List (Text × Name) → Type 0 where
  no_exports : LinkedExports L [] []
  same_export : (p : Text × Name) {xs ys : List (Text × Name)} → LinkedExports L xs ys → LinkedExports L (p ∷ xs) (p ∷ ys)
  other_export : (t : Text) (y x : Name) {xs ys : List (Text × Name)} → L.link y ≡ Some x → LinkedExports L xs ys → LinkedExports L ((t, y) ∷ xs) ((t, x) ∷ ys)

named_does : (L : Links) (mark n : ℕ) (call : Caller) (ss rs : List Span) (cs ds : Forest) → linked_eval L mark n call (node ExportNamed ss cs) ≡ linked_eval L mark n call (node ExportNamed rs ds)
unfolding linked_eval linked_act act
named_does L mark n call ss rs cs ds = refl

module _ {L : Links} where
  exports_in_front : (ps : List (Text × Name)) {xs ys : List (Text × Name)} → LinkedExports L xs ys → LinkedExports L (ps ++ xs) (ps ++ ys)
  exports_in_front [] h = h
  exports_in_front (p ∷ ps) h = same_export p (exports_in_front ps h)

  linked_append : {us vs xs ys : List (Text × Name)} → LinkedExports L us vs → LinkedExports L xs ys → LinkedExports L (us ++ xs) (vs ++ ys)
  linked_append no_exports h = h
  linked_append (same_export p g) h = same_export p (linked_append g h)
  linked_append (other_export t y x l g) h = other_export t y x l (linked_append g h)

  specifiers_linked : {cs ds : Forest} → Respecified L cs ds → LinkedExports L (specifier_exports cs) (specifier_exports ds)
  specifiers_linked respecified_end = no_exports
  specifiers_linked (respecified_same {t = node l ss cs} h) = exports_in_front (specifier_export l) (specifiers_linked h)
  specifiers_linked (respecified_as y x o l h) = other_export (export_text y o) y x l (specifiers_linked h)

  exports_linked : {ts us : Forest} → Reexports L ts us → LinkedExports L (exported ts) (exported us)
  exports_linked reexports_end = no_exports
  exports_linked (reexports_same {t = node l ss cs} h) = exports_in_front (item_exports l cs) (exports_linked h)
  exports_linked (reexports_item g h) = linked_append (specifiers_linked g) (exports_linked h)

  same_declared : {ts us : Forest} → Reexports L ts us → declared ts ≡ declared us
  same_declared reexports_end = refl
  same_declared (reexports_same {t = t} h) = ap (λ (ds : List Declared). declared_by t ++ ds) (same_declared h)
  same_declared (reexports_item g h) = same_declared h

  same_vars : {ts us : Forest} → Reexports L ts us → vars_all ts ≡ vars_all us
  same_vars reexports_end = refl
  same_vars (reexports_same {t = t} h) = ap (λ (xs : List Name). vars t ++ xs) (same_vars h)
  same_vars (reexports_item g h) = same_vars h

  same_import_names : {ts us : Forest} → Reexports L ts us → import_names ts ≡ import_names us
  same_import_names reexports_end = refl
  same_import_names (reexports_same {t = node l ss cs} h) = ap (λ (xs : List Name). import_names_of l cs ++ xs) (same_import_names h)
  same_import_names (reexports_item g h) = same_import_names h

  same_imports_at : (w : Surroundings) (k : ℕ) {ts us : Forest} → Reexports L ts us → imports_at w k ts ≡ imports_at w k us
  same_imports_at w k reexports_end = refl
  same_imports_at w k (reexports_same {t = node l ss cs} h) = ap (λ (ps : List (Name × Value)). item_imports w k l cs ++ ps) (same_imports_at w k h)
  same_imports_at w k (reexports_item g h) = same_imports_at w k h

  same_sources : {ts us : Forest} → Reexports L ts us → sources ts ≡ sources us
  same_sources reexports_end = refl
  same_sources (reexports_same {t = node l ss cs} h) = ap (λ (xs : List Text). source_of l ++ xs) (same_sources h)
  same_sources (reexports_item g h) = same_sources h

  same_each : (mark n : ℕ) (call : Caller) {ts us : Forest} → Reexports L ts us → each_of (linked_eval L mark n call) ts ≡ each_of (linked_eval L mark n call) us
  same_each mark n call reexports_end = refl
  same_each mark n call (reexports_same {t = t} h) = ap (λ (ms : List Meaning). linked_eval L mark n call t ∷ ms) (same_each mark n call h)
  same_each mark n call (reexports_item {ss} {rs} {cs} {ds} {us = us} g h) = ap (λ (ms : List Meaning). linked_eval L mark n call (node ExportNamed ss cs) ∷ ms) (same_each mark n call h) ∙ ap (λ (m : Meaning). m ∷ each_of (linked_eval L mark n call) us) (named_does L mark n call ss rs cs ds)

module _ {L : Links} {mark : ℕ} (P : Proper L mark) where
  -- a name, and the one that it stands for
  linked_bound : {G : Ground} (y x : Name) → L.link y ≡ Some x → (w : World) (c : Context) → FineContext L w G c → Runs L Nothing (Fine L) w (read_bound y (c.env y)) (read_bound x (c.env x))
  linked_bound y x l w c hc s h = go (subst (λ (o : Outcome Value). LinkedRead L w s (read_bound y (c.env y) s) o) (bound_read mark x c s (P.target_bound y x l)) (subst (λ (o : Outcome Value). LinkedRead L w s o (read mark x c s)) (bound_read mark y c s (P.linked_bound y x l)) (linked_read P y x l w c hc s h)))
    where
      go : {o p : Outcome Value} → LinkedRead L w s o p → Ends L Nothing (Fine L) w s o p
      go {o} {p} (no_read e) = subst (λ (o : Outcome Value). Ends L Nothing (Fine L) w s o p) (sym e) (outside p)
      go {o} {p} (same_read v r e d) = subst (λ (o : Outcome Value). Ends L Nothing (Fine L) w s o p) (sym e) (subst (λ (p : Outcome Value). Ends L Nothing (Fine L) w s (Done v s) p) (sym d) (done later_itself h r))

  module _ {G : Ground} where
    shows_linked : {xs ys : List (Text × Name)} → LinkedExports L xs ys → (w : World) (c : Context) → FineContext L w G c → Runs L Nothing Any w (show_exports xs c) (show_exports ys c)
    unfolding show_exports
    shows_linked no_exports w c hc = gives_safe [] tt
    shows_linked (same_export p h) w c hc = bind (read_bound_safe P w p.1 (c.env p.1)) (λ u g v r. bind (shown_safe P u v r) (λ x q a i. bind (shows_linked h x c (context_up (grown_on g q) hc)) (λ y z rest m. gives_safe ((p.0, a) ∷ rest) tt)))
    shows_linked (other_export t y x l h) w c hc = bind (linked_bound y x l w c hc) (λ u g v r. bind (shown_safe P u v r) (λ z q a i. bind (shows_linked h z c (context_up (grown_on g q) hc)) (λ b d rest m. gives_safe ((t, a) ∷ rest) tt)))

    value_linked : {xs ys : List (Text × Name)} → LinkedExports L xs ys → (t : Text) (w : World) (c : Context) → FineContext L w G c → Runs L Nothing (Fine L) w (export_value (export_name t xs) c) (export_value (export_name t ys) c)
    value_linked no_exports t w c hc = leaves_safe leaves
    value_linked (same_export p {xs} {ys} h) t w c hc = go (bytes_eq t p.0) (value_linked h t w c hc)
      where
        go : (b : Bool) → Runs L Nothing (Fine L) w (export_value (export_name t xs) c) (export_value (export_name t ys) c) → Runs L Nothing (Fine L) w (export_value (cond b (Some p.1) (export_name t xs)) c) (export_value (cond b (Some p.1) (export_name t ys)) c)
        go true q = read_bound_safe P w p.1 (c.env p.1)
        go false q = q
    value_linked (other_export u y x {xs} {ys} l h) t w c hc = go (bytes_eq t u) (linked_bound y x l w c hc) (value_linked h t w c hc)
      where
        go : (b : Bool) → Runs L Nothing (Fine L) w (read_bound y (c.env y)) (read_bound x (c.env x)) → Runs L Nothing (Fine L) w (export_value (export_name t xs) c) (export_value (export_name t ys) c)
            → Runs L Nothing (Fine L) w (export_value (cond b (Some y) (export_name t xs)) c) (export_value (cond b (Some x) (export_name t ys)) c)
        go true r q = r
        go false r q = q

    answer_ends : {xs ys : List (Text × Name)} → LinkedExports L xs ys → (c : Context) {w : World} → FineContext L w G c → {s : State} {o p : Outcome Value} → Ends L Nothing (Fine L) w s o p → Ends L Nothing Any w s (answer_of xs c o) (answer_of ys c p)
    answer_ends hx c hc (done {a} {v} {t} l h r) = after l (answer_safe P v a r Answered (λ u g. shows_linked hx u c (context_up (grown_on l.worlds g) hc)) t h)
    answer_ends hx c hc (jump {j = Thrown a} {v} {t} l h r) = after l (answer_safe P v a r Failed (λ u g. shows_linked hx u c (context_up (grown_on l.worlds g) hc)) t h)
    answer_ends hx c hc (jump {j = Broken k} l h r) = outside _
    answer_ends hx c hc (jump {j = Continued k} l h r) = outside _
    answer_ends hx c hc (jump {j = Returned v} l h r) = outside _
    answer_ends hx c hc (outside o) = outside _
    answer_ends hx c hc (cut o) = cut _

    callee_linked : {call call' : Caller} → SafeCalls L call call' → {xs ys : List (Text × Name)} → LinkedExports L xs ys → (f : Callee) (c : Context) (vs : Values) (w : World) → FineContext L w G c → Fines L w vs → Runs L Nothing (Fine L) w (call_callee call xs f vs c) (call_callee call' ys f vs c)
    callee_linked hk hx (Export t) c vs w hc rs = bind (value_linked hx t w c hc) (λ u g f r. call_own_safe P hk u f vs r (fines_up L g vs rs))
    callee_linked hk hx (Handed k this) c vs w hc rs = call_handle_safe P hk w k this vs rs

    answers_linked : {call call' : Caller} → SafeCalls L call call' → (sur : Surroundings) {ts us : Forest} → Reexports L ts us → ((x : Name) → has_name x (import_names ts) ≡ true → (L.fixed x ≡ false) × (L.still x ≡ false)) → (k : ℕ) (ls : List LaterCall) (c : Context) (w : World) → FineContext L w G c
        → Runs L Nothing Any w (answers call sur ts k ls c) (answers call' sur us k ls c)
    unfolding answers
    answers_linked hk sur re q k [] c w hc = gives_safe [] tt
    answers_linked {call} {call'} hk sur {ts} {us} re q k (l ∷ ls) c w hc =
        subst (λ (ps : List (Name × Value)). Runs L Nothing Any w (at_moment (imports_at sur k ts) (answer_to call (exported ts) l c >>= λ a. answers call sur ts (suc k) ls c >>= λ rest. gives (a ∷ rest))) (at_moment ps (answer_to call' (exported us) l c >>= λ a. answers call' sur us (suc k) ls c >>= λ rest. gives (a ∷ rest)))) (same_imports_at sur k re)
        (at_moment_safe P (imports_at sur k ts) (all_loose L (imports_at sur k ts) (λ x e. q x (sym (imports_are x sur k ts) ∙ e))) w
        (bind {R = Any} (λ s h. answer_ends (exports_linked re) c hc (if_data_safe P l.arguments w (callee_linked hk (exports_linked re) l.callee c l.arguments w hc) s h)) (λ u g a r.
        bind (answers_linked hk sur re q (suc k) ls c u (context_up g hc)) (λ x p rest z. gives_safe (a ∷ rest) tt))))

  -- where exports name what names stand for
  pub finish_linked : {G : Ground} {call call' : Caller} → SafeCalls L call call' → (sur : Surroundings) {ts us : Forest} → Reexports L ts us → ((x : Name) → has_name x (import_names ts) ≡ true → (L.fixed x ≡ false) × (L.still x ≡ false)) → (ls : List LaterCall) (c : Context) (w : World) → FineContext L w G c
      → Runs L Nothing Any w (finish call sur ts ls c) (finish call' sur us ls c)
  finish_linked hk sur re q ls c w hc = bind (shows_linked (exports_linked re) w c hc) (λ u g shows r. bind (answers_linked hk sur re q 1 ls c u (context_up g hc)) (λ x p given z. gives_safe (Finished shows given) tt))

  -- a module's run by its parts
  shape : (is vs : List Name) (ds : List Declared) (ps : List (Name × Value)) (ms : List Meaning) (loads : List Text) → (Context → Run Ending) → Surroundings → Observed
  shape is vs ds ps ms loads fin sur = ends (in_scope (λ x. has_name x is || (has_name x vs || is_found x ds)) (λ e x. import_cell (found x ps) (var_cell (cell_of_declared e Undefined (found x ds)))) (λ c. run_all ms c >>= λ v. fin c) (in_env (λ x. None) Undefined) (start loads sur))

  shape_is : (n d : ℕ) (sur : Surroundings) (calls : List LaterCall) (us : Forest)
      → run_items (linked_eval L mark n) d sur calls us ≡ shape (import_names us) (vars_all us) (declared us) (imports_at sur 0 us) (each_of (linked_eval L mark n (call_at (linked_eval L mark n) d)) us) (once [] (sources us)) (λ c. finish (call_at (linked_eval L mark n) d) sur us calls c) sur
  unfolding run_items shape
  shape_is n d sur calls us = refl

  moved : (n d : ℕ) (sur : Surroundings) (calls : List LaterCall) {ts us : Forest} → Reexports L ts us
      → shape (import_names ts) (vars_all ts) (declared ts) (imports_at sur 0 ts) (each_of (linked_eval L mark n (call_at (linked_eval L mark n) d)) ts) (once [] (sources ts)) (λ c. finish (call_at (linked_eval L mark n) d) sur us calls c) sur
      ≡ run_items (linked_eval L mark n) d sur calls us
  moved n d sur calls {ts} {us} re =
      (λ i. shape (same_import_names re i) (same_vars re i) (same_declared re i) (same_imports_at sur 0 re i) (same_each mark n (call_at (linked_eval L mark n) d) re i) (once [] (same_sources re i)) (λ c. finish (call_at (linked_eval L mark n) d) sur us calls c) sur)
      ∙ sym (shape_is n d sur calls us)

  -- What is seen of a module is seen where names stand for names, and exports name what they stand for.
  pub whole_reexported : (ss rs : List Span) {ts us : Forest} → GoodWhole L (node Module ss ts) → Reexports L ts us → (n d : ℕ) (sur : Surroundings) (calls : List LaterCall) (o : Observation)
      → observe_by (eval mark n) d sur calls (node Module ss ts) ≡ Sees o → observe_by (linked_eval L mark n) d sur calls (node Module rs us) ≡ Sees o
  unfolding observe_by run_items shape
  whole_reexported ss rs {ts} {us} (good_module B op hi hf hs) re n d sur calls o e =
      subst (λ (ps : List (Name × Value)). cond (all_are_data ps) (run_items (linked_eval L mark n) d sur calls us) LeftCore ≡ Sees o) (same_imports_at sur 0 re)
      (if_data P (all_are_data (imports_at sur 0 ts)) o (λ q i. sym (moved n d sur calls re) ∙ ends_seen P (whole_scope P op hf (imports_at sur 0 ts) (λ x e. (hi x (sym (imports_are x sur 0 ts) ∙ e)).0) q Undefined Undefined tt tt
      (λ v c s hc p h. items_then P hs n d (λ w c hc. finish_linked (call_at_safe P n d) sur re hi calls c w hc) v c s hc p h) (once [] (sources ts)) sur) o i) e)
