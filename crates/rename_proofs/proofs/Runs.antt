-- A renamed module or script does the same.
use Rattle.std.proofs.Common.{◌≡◌, ℕ, suc, Bool, true, false, ◌||◌, List, [], ◌∷◌, Option, Some, None, refl, sym, ap, ap₂, subst, cond, ◌∙◌, bytes_eq, if◌then◌else◌}
use Rattle.swc_ast.specs.Tree.{Name, Text, Module, Script, Tree, node, Forest, ε}
use Rattle.swc_ast.specs.Value.{Env, Value, Undefined, Values, is_data, all_data, Cell, State, Outcome, Run, and_then, Context}
use Rattle.swc_ast.specs.Scope.{has_name, found, module_binds, import_names, body_declares}
use Rattle.swc_ast.specs.Meaning.{◌>>=◌, gives, leaves, Caller, eval, read_bound, hand, call_handed}
use Rattle.swc_ast.specs.Call.{body_cells, in_env}
use Rattle.swc_ast.specs.Run.{World, Callee, Export, Handed, LaterCall, Shown, Datum, Exports, Answer, Answered, Failed, Ending, Threw, Finished, Observation, Observed, Sees, LeftCore, Unfinished, once, imports_at, all_are_data, import_cell, module_cells, refreshed, exported, shown, show_exports, export_name, export_value, call_own, call_callee, answer_of, answer_to, at_moment, answers, threw, ends, start, finish, run_items, run_statements, observe_by, Same}
use Rattle.rename_rules.specs.Renamed.{renamed, renamed_all, new_exports, exports_stay, own_exports_stay}
use Rattle.rename_proofs.proofs.Relation.{Pairing, none, Maybe, neither, both, SameEnv, V, Vs, undefined, null, nan, type_error, script_this, truth, num, text, items, entries, function, token, own, SameCell, S, C, broken, continued, returned, thrown, Sim, done, jump, outside, cut, Ran}
use Rattle.rename_proofs.proofs.Combine.{Eq, gives_sim, leaves_sim, and_then_sim, bind}
use Rattle.rename_proofs.proofs.Data.{data_same, all_data_same}
use Rattle.rename_proofs.proofs.Stores.{in_env_of, hand_sim}
use Rattle.rename_proofs.proofs.Scopes.{in_scope_sim}
use Rattle.rename_proofs.proofs.Parts.{K, call_handed_sim, run_all_sim}
use Rattle.rename_proofs.proofs.Declared.{has_new, declares_new}
use Rattle.rename_proofs.proofs.Trees.{each_sim}
use Rattle.rename_proofs.proofs.Calls.{cells_sim, call_at_sim}
use Rattle.rename_proofs.proofs.Exports.{new_imports, imports_new, data_new, import_found, refreshed_sim, import_names_new, sources_new, exported_new}

-- where the first is seen, so is the second, and the same
pub data Follows : Observed → Observed → Type 0 where
  sees : {o p : Observation} → p ≡ o → Follows (Sees o) (Sees p)
  left_core : (q : Observed) → Follows LeftCore q
  unfinished : (q : Observed) → Follows Unfinished q

seen_of : (o : Observation) (q : Observed) → Follows (Sees o) q → q ≡ Sees o
seen_of o q (sees e) = ap Sees e

module _ {P : Pairing} where
  hand_shown : {v w : Value} → V P v w → Ran P Eq (hand v >>= λ x. gives (Datum x)) (hand w >>= λ x. gives (Datum x))
  hand_shown r = bind (hand_sim r) (λ x y e. gives_sim (ap Datum e))

  shown_sim : {v w : Value} → V P v w → Ran P Eq (shown v) (shown w)
  shown_sim (function k e r) = gives_sim refl
  shown_sim (items r) = hand_shown (items r)
  shown_sim (entries r) = hand_shown (entries r)
  shown_sim undefined = hand_shown undefined
  shown_sim null = hand_shown null
  shown_sim nan = hand_shown nan
  shown_sim type_error = hand_shown type_error
  shown_sim script_this = hand_shown script_this
  shown_sim (truth b) = hand_shown (truth b)
  shown_sim (num z) = hand_shown (num z)
  shown_sim (text t) = hand_shown (text t)
  shown_sim (token n b) = hand_shown (token n b)
  shown_sim (own k) = hand_shown (own k)

  pub show_exports_sim : (ps : List (Text × Name)) {c d : Context} → C P c d → Ran P Eq (show_exports ps c) (show_exports (new_exports P.to ps) d)
  unfolding show_exports
  show_exports_sim [] hc = gives_sim refl
  show_exports_sim (p ∷ ps) hc = bind (in_env_of p.1 (hc.env.at p.1)) (λ v w r. bind (shown_sim r) (λ a b e. bind (show_exports_sim ps hc) (λ xs ys d. gives_sim (ap₂ (λ (a : Shown) (rest : Exports). (p.0, a) ∷ rest) e d))))

  -- later calls

  export_value_sim : (ps : List (Text × Name)) (t : Text) {c d : Context} → C P c d → Ran P (V P) (export_value (export_name t ps) c) (export_value (export_name t (new_exports P.to ps)) d)
  export_value_sim [] t hc = leaves_sim leaves
  export_value_sim (p ∷ ps) t {c} {d} hc = go (bytes_eq t p.0) (in_env_of p.1 (hc.env.at p.1)) (export_value_sim ps t hc)
    where
      go : (b : Bool) → Ran P (V P) (read_bound p.1 (c.env p.1)) (read_bound (P.to p.1) (d.env (P.to p.1))) → Ran P (V P) (export_value (export_name t ps) c) (export_value (export_name t (new_exports P.to ps)) d)
          → Ran P (V P) (export_value (cond b (Some p.1) (export_name t ps)) c) (export_value (cond b (Some (P.to p.1)) (export_name t (new_exports P.to ps))) d)
      go true r q = r
      go false r q = q

  call_own_sim : {call call' : Caller} → K P call call' → {f g : Value} → V P f g → {vs ws : Values} → Vs P vs ws → Ran P (V P) (call_own call f vs) (call_own call' g ws)
  call_own_sim hk (function k e r) rs = hk.by (function k e r) undefined rs
  call_own_sim hk (own k) rs = call_handed_sim hk k undefined rs
  call_own_sim hk _ rs = leaves_sim leaves

  call_handle_sim : (b : Bool) (this : Value) → is_data this ≡ b → {call call' : Caller} → K P call call' → (k : ℕ) {vs ws : Values} → Vs P vs ws → Ran P (V P) (if b then call_handed call k this vs else leaves) (if b then call_handed call' k this ws else leaves)
  call_handle_sim true this e hk k rs = call_handed_sim hk k (data_same this e) rs
  call_handle_sim false this e hk k rs = leaves_sim leaves

  call_callee_sim : {call call' : Caller} → K P call call' → (ps : List (Text × Name)) (f : Callee) {vs ws : Values} → Vs P vs ws → {c d : Context} → C P c d → Ran P (V P) (call_callee call ps f vs c) (call_callee call' (new_exports P.to ps) f ws d)
  call_callee_sim hk ps (Export t) rs hc = bind (export_value_sim ps t hc) (λ f g r. call_own_sim hk r rs)
  call_callee_sim hk ps (Handed k this) rs hc = call_handle_sim (is_data this) this refl hk k rs

  -- an answer is shown
  answer_sim : (answer : Value → Exports → Answer) {v w : Value} → V P v w → {m n : Run Exports} → Ran P Eq m n → {s t : State} → S P s t
      → Sim P Eq (and_then (hand v s) (λ x. m >>= λ shows. gives (answer x shows))) (and_then (hand w t) (λ x. n >>= λ shows. gives (answer x shows)))
  answer_sim answer r hm h = and_then_sim (hand_sim r _ _ h) (λ x y e. bind hm (λ a b q. gives_sim (ap₂ answer e q)))

  answer_of_sim : (ps : List (Text × Name)) {c d : Context} → C P c d → {o p : Outcome Value} → Sim P (V P) o p → Sim P Eq (answer_of ps c o) (answer_of (new_exports P.to ps) d p)
  answer_of_sim ps hc (done r hs) = answer_sim Answered r (show_exports_sim ps hc) hs
  answer_of_sim ps hc (jump (thrown r) hs) = answer_sim Failed r (show_exports_sim ps hc) hs
  answer_of_sim ps hc (jump (broken l) hs) = outside _
  answer_of_sim ps hc (jump (continued l) hs) = outside _
  answer_of_sim ps hc (jump (returned r) hs) = outside _
  answer_of_sim ps hc (outside o) = outside _
  answer_of_sim ps hc (cut o) = cut _

  arguments_sim : (b : Bool) (vs : Values) → all_data vs ≡ b → {m n : Run Value} → (Vs P vs vs → Ran P (V P) m n) → Ran P (V P) (if b then m else leaves) (if b then n else leaves)
  arguments_sim true vs e h = h (all_data_same vs e)
  arguments_sim false vs e h = leaves_sim leaves

  answer_to_sim : {call call' : Caller} → K P call call' → (ps : List (Text × Name)) (l : LaterCall) {c d : Context} → C P c d → Ran P Eq (answer_to call ps l c) (answer_to call' (new_exports P.to ps) l d)
  answer_to_sim hk ps l hc = λ s t hs. answer_of_sim ps hc (arguments_sim (all_data l.arguments) l.arguments refl (λ rs. call_callee_sim hk ps l.callee rs hc) s t hs)

  at_moment_sim : (ps : List (Name × Value)) {A : Type 0} {RA : A → A → Type 0} {m n : Run A} → Ran P RA m n → Ran P RA (at_moment ps m) (at_moment (new_imports P ps) n)
  at_moment_sim ps {RA = RA} {m} {n} h = subst (λ (b : Bool). Ran P RA (at_moment ps m) (if b then (λ s. n (refreshed (new_imports P ps) s)) else leaves)) (sym (data_new P ps)) (go (all_are_data ps) refl)
    where
      go : (b : Bool) → all_are_data ps ≡ b → Ran P RA (if b then (λ s. m (refreshed ps s)) else leaves) (if b then (λ s. n (refreshed (new_imports P ps) s)) else leaves)
      go true e = λ s t hs. h _ _ (refreshed_sim P ps e hs)
      go false e = leaves_sim leaves

module _ (P : Pairing) where
  -- exports and later calls of a module whose exports and imports are those of the renamed one
  answers_sim : {call call' : Caller} → K P call call' → (w : World) (ts : Forest) → exports_stay P.to ts ≡ true → (k : ℕ) (ls : List LaterCall) {c d : Context} → C P c d → Ran P Eq (answers call w ts k ls c) (answers call' w (renamed_all P.to ts) k ls d)
  unfolding answers
  answers_sim hk w ts e k [] hc = gives_sim refl
  answers_sim {call} {call'} hk w ts e k (l ∷ ls) {c} {d} hc =
      subst (λ ps. Ran P Eq (answers call w ts k (l ∷ ls) c) (at_moment ps (answer_to call' (exported (renamed_all P.to ts)) l d >>= λ a. answers call' w (renamed_all P.to ts) (suc k) ls d >>= λ rest. gives (a ∷ rest)))) (sym (imports_new P w k ts))
      (at_moment_sim (imports_at w k ts)
      (bind (subst (λ ps. Ran P Eq (answer_to call (exported ts) l c) (answer_to call' ps l d)) (sym (exported_new P ts e)) (answer_to_sim hk (exported ts) l hc)) (λ a b q.
      bind (answers_sim hk w ts e (suc k) ls hc) (λ xs ys p. gives_sim (ap₂ (λ (a : Answer) (rest : List Answer). a ∷ rest) q p)))))

  finish_sim : {call call' : Caller} → K P call call' → (w : World) (ts : Forest) → exports_stay P.to ts ≡ true → (ls : List LaterCall) {c d : Context} → C P c d → Ran P Eq (finish call w ts ls c) (finish call' w (renamed_all P.to ts) ls d)
  finish_sim hk w ts e ls {c} {d} hc =
      bind (subst (λ ps. Ran P Eq (show_exports (exported ts) c) (show_exports ps d)) (sym (exported_new P ts e)) (show_exports_sim (exported ts) hc)) (λ a b q.
      bind (answers_sim hk w ts e 1 ls hc) (λ xs ys p. gives_sim (ap₂ Finished q p)))

  -- the ends of runs

  ended : {s t : State} {a b : Ending} → S P s t → a ≡ b → Follows (Sees (record { events = s.events; ending = a })) (Sees (record { events = t.events; ending = b }))
  ended h e = sees (λ i. record { events = sym h.events i; ending = sym e i })

  threw_sim : {o p : Outcome Value} → Sim P Eq o p → Follows (threw o) (threw p)
  threw_sim (done e h) = ended h (ap Threw e)
  threw_sim (jump r h) = left_core _
  threw_sim (outside o) = left_core _
  threw_sim (cut o) = left_core _

  ends_sim : {o p : Outcome Ending} → Sim P Eq o p → Follows (ends o) (ends p)
  ends_sim (done e h) = ended h e
  ends_sim (jump {s = s} {t} (thrown r) h) = threw_sim (hand_sim r s t h)
  ends_sim (jump (broken l) h) = left_core _
  ends_sim (jump (continued l) h) = left_core _
  ends_sim (jump (returned r) h) = left_core _
  ends_sim (outside o) = left_core _
  ends_sim (cut o) = unfinished _

  -- whole runs

  start_sim : (w : World) (ts us : List Text) → us ≡ ts → S P (start ts w) (start us w)
  start_sim w ts us e = subst (λ us. S P (start ts w) (start us w)) (sym e) (record { events = refl; replies = refl; handed = none; natives = refl; cells = λ x. none })

  first_context : {v : Value} → V P v v → C P (in_env (λ x. None) v) (in_env (λ x. None) v)
  first_context r = record { env = record { at = λ x. refl }; this = r; labels = refl }

  pub module_binds_new : (ts : Forest) (x : Name) → module_binds ts x ≡ module_binds (renamed_all P.to ts) (P.to x)
  module_binds_new ts x = ap₂ ◌||◌ (has_new P x (import_names ts) ∙ ap (has_name (P.to x)) (sym (import_names_new P ts))) (declares_new P ts x)

  import_cell_sim : {o p : Option Value} {q r : Option Cell} → Maybe (V P) o p → Maybe (SameCell P) q r → Maybe (SameCell P) (import_cell o q) (import_cell p r)
  import_cell_sim neither h = h
  import_cell_sim (both r) h = both (record { writable = refl; held = both r })

  module_cells_sim : (w : World) (ts : Forest) → all_are_data (imports_at w 0 ts) ≡ true → (e f : Env) → SameEnv P e f → (x : Name) → Maybe (SameCell P) (module_cells w ts e x) (module_cells w (renamed_all P.to ts) f (P.to x))
  module_cells_sim w ts q e f he x =
      import_cell_sim (subst (λ ps. Maybe (V P) (found x (imports_at w 0 ts)) (found (P.to x) ps)) (sym (imports_new P w 0 ts)) (import_found P x (imports_at w 0 ts) q)) (cells_sim P ts undefined e f he x)

  items_follow : (n d : ℕ) (w : World) (calls : List LaterCall) (ts : Forest) → exports_stay P.to ts ≡ true → all_are_data (imports_at w 0 ts) ≡ true → Follows (run_items (eval P.mark n) d w calls ts) (run_items (eval P.mark n) d w calls (renamed_all P.to ts))
  unfolding run_items
  items_follow n d w calls ts e q =
      ends_sim (in_scope_sim (module_binds (renamed_all P.to ts)) (module_cells w (renamed_all P.to ts)) (module_binds_new ts) (module_cells_sim w ts q)
      (λ c c' hc. bind ((run_all_sim (each_sim P n (call_at_sim P n d) ts)).at c c' hc) (λ v v' p. finish_sim (call_at_sim P n d) w ts e calls hc))
      (first_context undefined) _ _ (start_sim w _ _ (ap (once []) (sources_new P ts))))

  statements_follow : (n d : ℕ) (w : World) (calls : List LaterCall) (ts : Forest) → Follows (run_statements (eval P.mark n) d w calls ts) (run_statements (eval P.mark n) d w calls (renamed_all P.to ts))
  unfolding run_statements renamed
  statements_follow n d w calls ts =
      ends_sim (in_scope_sim (body_declares (renamed_all P.to ts)) (λ e. body_cells (renamed_all P.to ts) Undefined e) (declares_new P ts) (cells_sim P ts undefined)
      (λ c c' hc. bind ((run_all_sim (each_sim P n (call_at_sim P n d) ts)).at c c' hc) (λ v v' p. finish_sim (call_at_sim P n d) w ε refl calls hc))
      (first_context script_this) _ _ (start_sim w [] [] refl))

  if_data : (b d : Bool) → d ≡ b → {o p : Observed} → (b ≡ true → Follows o p) → Follows (if b then o else LeftCore) (if d then p else LeftCore)
  if_data true true e h = h refl
  if_data true false e h = cc
  if_data false d e h = left_core _

  follows : (t : Tree) → own_exports_stay P.to t ≡ true → (n d : ℕ) (w : World) (calls : List LaterCall) → Follows (observe_by (eval P.mark n) d w calls t) (observe_by (eval P.mark n) d w calls (renamed P.to t))
  unfolding observe_by renamed
  follows (node Module ss ts) e n d w calls = if_data (all_are_data (imports_at w 0 ts)) (all_are_data (imports_at w 0 (renamed_all P.to ts))) (ap all_are_data (imports_new P w 0 ts) ∙ data_new P (imports_at w 0 ts)) (items_follow n d w calls ts e)
  follows (node Script ss ts) e n d w calls = statements_follow n d w calls ts
  follows (node _ ss ts) e n d w calls = left_core _

  pub same : (loads : Bool) (t : Tree) → own_exports_stay P.to t ≡ true → Same P.mark loads t (renamed P.to t)
  unfolding Same
  same loads t e n d w calls o q = (o, seen_of o _ (subst (λ p. Follows p (observe_by (eval P.mark n) d w calls (renamed P.to t))) q (follows t e n d w calls)), refl)
