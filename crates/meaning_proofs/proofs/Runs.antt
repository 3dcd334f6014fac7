-- Rewritten modules and scripts do the same.
use Rattle.std.proofs.Common.{◌≡◌, ℕ, Bool, true, false, ◌||◌, List, [], ◌∷◌, Option, Some, None, refl, sym, ap, ap₂, subst, cond, ◌∙◌, if◌then◌else◌}
use Rattle.std.proofs.lemmas.Bool.{false≢true}
use Rattle.swc_ast.specs.Tree.{Name, Text, Tree, Forest, ε}
use Rattle.swc_ast.specs.Value.{Env, Value, Undefined, Event, Load, Cell}
use Rattle.swc_ast.specs.Scope.{found, is_found, body_declares, module_binds}
use Rattle.swc_ast.specs.Meaning.{eval}
use Rattle.swc_ast.specs.Call.{in_env}
use Rattle.swc_ast.specs.Run.{World, LaterCall, Observed, LeftCore, load_events, once, sources, imports_at, all_are_data, import_cell, module_cells, exported, start, run_items, run_statements, observe_by, Same}
use Rattle.meaning_proofs.specs.Names.{Names, no_cell}
use Rattle.meaning_proofs.specs.Exact.{Evaluation}
use Rattle.meaning_proofs.specs.Sameness.{counting, heeded, ignoring, SameIn}
use Rattle.meaning_proofs.specs.Roles.{module_items, SameSlack}
use Rattle.meaning_proofs.specs.Rewrites.{Listed, listed, Related, modules, scripts}
use Rattle.meaning_proofs.proofs.Relation.{Pairing, none, Maybe, neither, both, SameEnv, V, undefined, script_this, same_held, SameCell, alike, S, C}
use Rattle.meaning_proofs.proofs.Combine.{bind}
use Rattle.meaning_proofs.proofs.Scopes.{Born, in_scope_sim}
use Rattle.meaning_proofs.proofs.Finds.{is_none}
use Rattle.meaning_proofs.proofs.Declared.{pairing, ListRole, listed_role}
use Rattle.meaning_proofs.proofs.Trees.{listed_sim}
use Rattle.meaning_proofs.proofs.Bodies.{declares_same, cells_same, cells_born}
use Rattle.meaning_proofs.proofs.Calls.{call_at_sim}
use Rattle.meaning_proofs.proofs.Endings.{Follows, left_core, seen_of, as_counted, ends_sim}
use Rattle.meaning_proofs.proofs.Imports.{SameImports, no_imports, imports_of_items, exports_of_items, sources_of_items, imports_are, same_found, same_is_found, not_found, still_data, found_is_data}
use Rattle.meaning_proofs.proofs.Items.{same_imports, same_exports}
use Rattle.meaning_proofs.proofs.Exports.{exports_kept, ExportsKept, no_export, ImportsAlike, finish_sim}

heeded_if : (b : Bool) (t : Text) (es : List Event) (ts : List Text) → es ≡ load_events ts → cond b es (Load t ∷ es) ≡ load_events (cond b ts (t ∷ ts))
heeded_if true t es ts e = e
heeded_if false t es ts e = ap (λ es. Load t ∷ es) e

-- the loads that count
counting_loads : (ignores : Text → Bool) (ts : List Text) → counting ignores (load_events ts) ≡ load_events (heeded ignores ts)
counting_loads ignores [] = refl
counting_loads ignores (t ∷ ts) = heeded_if (ignores t) t (counting ignores (load_events ts)) (heeded ignores ts) (counting_loads ignores ts)

import_born : (g : Option Value) (o : Option Value) (q : Option Cell) → o ≡ None → Born g q → Born g (import_cell o q)
import_born g None q e h = h
import_born g (Some v) q e h = cc

module _ {P : Pairing} where
  start_sim : (w : World) (ts us : List Text) → heeded P.ignores ts ≡ heeded P.ignores us → S P (start ts w) (start us w)
  start_sim w ts us h = record { events = counting_loads P.ignores ts ∙ ap load_events h ∙ sym (counting_loads P.ignores us); replies = refl; handed = none; natives = refl; cells = λ x keeps. none; guards = record { at = λ x g. no_cell } }

  first_context : {v : Value} → V P v v → C P (in_env (λ x. None) v) (in_env (λ x. None) v)
  first_context r = record { env = record { at = λ x keeps. refl }; this = r; labels = refl }

  import_cell_sim : {x : Name} {o p : Option Value} {q r : Option Cell} → Maybe (V P) o p → Maybe (SameCell P x) q r → Maybe (SameCell P x) (import_cell o q) (import_cell p r)
  import_cell_sim neither h = h
  import_cell_sim (both r) h = both (alike refl (both (same_held r)))

  -- the cells of a module's own scope
  module_cells_sim : (w : World) {ts us : Forest} → ListRole P ts us → SameImports P.names (imports_at w 0 ts) (imports_at w 0 us) → all_are_data (imports_at w 0 ts) ≡ true
      → (e f : Env) → SameEnv P e f → (x : Name) → P.dropped x ≡ false → Maybe (SameCell P x) (module_cells w ts e x) (module_cells w us f x)
  module_cells_sim w {ts} {us} h i q e f he x keeps =
      import_cell_sim (subst (λ o. Maybe (V P) (found x (imports_at w 0 ts)) o) (same_found i x keeps) (found_is_data x (imports_at w 0 ts) q)) (cells_same h undefined e f he x keeps)

  module_binds_same : (w : World) {ts us : Forest} → ListRole P ts us → SameSlack P.names ts us → SameImports P.names (imports_at w 0 ts) (imports_at w 0 us) → (x : Name) → P.dropped x ≡ false → module_binds ts x ≡ module_binds us x
  module_binds_same w {ts} {us} h sl i x keeps = ap₂ ◌||◌ (sym (imports_are x w 0 ts) ∙ same_is_found i x keeps ∙ imports_are x w 0 us) (declares_same h x keeps (sl.binds x))

  module_cells_born : (w : World) {ts us : Forest} → ListRole P ts us → SameImports P.names (imports_at w 0 ts) (imports_at w 0 us) → (e : Env) (x : Name) → P.guarded x ≡ true → module_binds ts x ≡ true → Born (P.guard x) (module_cells w ts e x)
  module_cells_born w {ts} h i e x g b =
      let n : is_found x (imports_at w 0 ts) ≡ false = not_found i x g in
      import_born (P.guard x) _ _ (is_none x (imports_at w 0 ts) n) (cells_born h Undefined e x g (ap (λ b. b || body_declares ts x) (sym (sym (imports_are x w 0 ts) ∙ n)) ∙ b))

items_export : (ts us : Forest) → module_items ts ≡ module_items us → exported ts ≡ exported us
items_export ts us e = exports_of_items ts ∙ ap exported e ∙ sym (exports_of_items us)

items_load : (ts us : Forest) → module_items ts ≡ module_items us → sources ts ≡ sources us
items_load ts us e = sources_of_items ts ∙ ap sources e ∙ sym (sources_of_items us)

items_import : (w : World) (m : ℕ) (ts us : Forest) → module_items ts ≡ module_items us → imports_at w m ts ≡ imports_at w m us
items_import w m ts us e = imports_of_items w m ts ∙ ap (imports_at w m) e ∙ sym (imports_of_items w m us)

if_all_data : {ignores : Text → Bool} (b c : Bool) {o p : Observed} → (b ≡ true → c ≡ true) → (b ≡ true → Follows ignores o p) → Follows ignores (if b then o else LeftCore) (if c then p else LeftCore)
if_all_data true true g h = h refl
if_all_data true false g h = absurd (false≢true (g refl))
if_all_data false c g h = left_core _

module _ {N : Names} {mark : ℕ} {does : Evaluation} {ignores : Text → Bool} where
  -- scripts
  script_follows : (n d : ℕ) (w : World) (calls : List LaterCall) {ts us : Forest} → Listed N mark does ts us → SameSlack N ts us → Follows ignores (run_statements (does n) d w calls ts) (run_statements (eval mark n) d w calls us)
  unfolding run_statements
  script_follows n d w calls {ts} {us} h sl =
      let r : ListRole (pairing N mark does ignores) ts us = listed_role h in
      ends_sim {P = pairing N mark does ignores} (in_scope_sim (λ x keeps. declares_same r x keeps (sl.binds x)) (cells_same r undefined) (λ e x g b. cells_born r Undefined e x g b)
      (λ c c' hc. bind ((listed_sim n d (call_at_sim n d) h).at c c' hc) (λ v v' q. finish_sim (call_at_sim n d) w {ts = ε} {us = ε} (record { at = λ k. no_imports }) refl no_export calls hc))
      (first_context script_this) _ _ (start_sim w [] [] refl))

  -- modules
  module_follows : (n d : ℕ) (w : World) (calls : List LaterCall) {ts us : Forest} → Listed N mark does ts us → SameSlack N ts us → ImportsAlike N w ts us → exported ts ≡ exported us → ExportsKept N (exported ts)
      → heeded ignores (once [] (sources ts)) ≡ heeded ignores (once [] (sources us)) → all_are_data (imports_at w 0 ts) ≡ true → Follows ignores (run_items (does n) d w calls ts) (run_items (eval mark n) d w calls us)
  unfolding run_items
  module_follows n d w calls {ts} {us} h sl i e k l q =
      let r : ListRole (pairing N mark does ignores) ts us = listed_role h in
      ends_sim {P = pairing N mark does ignores} (in_scope_sim (module_binds_same w r sl (i.at 0)) (module_cells_sim w r (i.at 0) q) (module_cells_born w r (i.at 0))
      (λ c c' hc. bind ((listed_sim n d (call_at_sim n d) h).at c c' hc) (λ v v' p. finish_sim (call_at_sim n d) w i e k calls hc))
      (first_context undefined) _ _ (start_sim w _ _ l))

  -- What is seen of the first is seen of the second, where loads count or not.
  pub follows : {t u : Tree} → Related N mark does ignores t u → (n d : ℕ) (w : World) (calls : List LaterCall) → Follows ignores (observe_by (does n) d w calls t) (observe_by (eval mark n) d w calls u)
  unfolding observe_by
  follows (scripts h sl) n d w calls = script_follows n d w calls h sl
  follows (modules {ts = ts} {us} {vs} {ws} a f h e g i j k l sl) n d w calls =
      let alike : ImportsAlike N w ts ws = record { at = λ m. around m (same_imports w m h) } in
      if_all_data (all_are_data (imports_at w 0 ts)) (all_are_data (imports_at w 0 ws)) (still_data (alike.at 0))
      (module_follows n d w calls (listed a f h e g) sl alike
      (items_export ts us i ∙ same_exports h ∙ items_export vs ws j)
      (subst (ExportsKept N) (sym (items_export ts us i)) (exports_kept N (exported us) k))
      (ap (λ xs. heeded ignores (once [] xs)) (items_load ts us i) ∙ l ∙ ap (λ xs. heeded ignores (once [] xs)) (items_load vs ws j)))
    where
      around : (m : ℕ) → SameImports N (imports_at w m us) (imports_at w m vs) → SameImports N (imports_at w m ts) (imports_at w m ws)
      around m h = subst (λ ps. SameImports N ps (imports_at w m ws)) (sym (items_import w m ts us i)) (subst (λ ps. SameImports N (imports_at w m us) ps) (items_import w m vs ws j) h)

-- Related modules and scripts do the same, under an evaluation of the first that is its own.
pub same_in : {N : Names} {mark : ℕ} {does : Evaluation} {ignores : Text → Bool} {t u : Tree} → Related N mark does ignores t u → SameIn does mark ignores t u
unfolding SameIn
same_in {mark = mark} {does} {ignores} {t} {u} h n d w calls o e = seen_of ignores o (observe_by (eval mark n) d w calls u) (subst (λ q. Follows ignores q (observe_by (eval mark n) d w calls u)) e (follows h n d w calls))

-- Related modules and scripts do the same.
pub same : (loads : Bool) {N : Names} {mark : ℕ} {t u : Tree} → Related N mark (eval mark) (ignoring loads) t u → Same mark loads t u
unfolding Same SameIn
same loads h n d w calls o e =
    let p = same_in h n d w calls o e in
    (p.0, p.1, as_counted loads p.0 o p.2)
