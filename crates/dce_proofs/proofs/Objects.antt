-- A function that is called at once and returns an object of names: the object.
use Rattle.std.proofs.Common.{◌≡◌, ℕ, zero, suc, Bool, true, false, ◌||◌, List, [], ◌∷◌, Option, Some, None, refl, ap, subst, ◌∙◌, bytes_eq, codes, if◌then◌else◌}
use mathlib.Core.Path.{fun_ext}
use Rattle.swc_ast.specs.declared.Span.{Span}
use Rattle.swc_ast.specs.Tree.{Name, Call, Fn, Params, Body, Return, Object, node, Forest, ε, ◌⊳◌}
use Rattle.swc_ast.specs.Value.{Env, Value, Undefined, Record, Fields, nofield, Cell, State, Reply, Gives, Throws, Back, Returned, Thrown, Outcome, Done, Jumps, Outside, Cut, Run, and_then, Context, is_data}
use Rattle.swc_ast.specs.Meaning.{gives, jumps, in_core, ask, take_reply, read, read_host, read_bound, held_value, cell_at, Caller, is_unresolved, object_fields, merged, key_name, one_field, eval, evals, act, in_scope, at_return, all_values, call_value}
use Rattle.swc_ast.specs.Call.{at_call, call_at, invoke, run_function, bind_params}
use Rattle.meaning_proofs.specs.Exact.{Refined, Exact}
use Rattle.dce_rules.specs.Shakes.{NamesOnly, no_property, short, key_and_name, object_call}

-- an outcome that, where it jumps, throws
pub data Throwing {A : Type 0} : Outcome A → Type 0 where
  is_done : {a : A} {s : State} → Throwing (Done a s)
  is_thrown : {v : Value} {s : State} → Throwing (Jumps (Thrown v) s)
  is_outside : Throwing Outside
  is_cut : Throwing Cut

throwing_then : {A B : Type 0} {o : Outcome A} (f : A → Run B) → Throwing o → ((a : A) (s : State) → Throwing (f a s)) → Throwing (and_then o f)
unfolding and_then
throwing_then f (is_done {a} {s}) h = h a s
throwing_then f is_thrown h = is_thrown
throwing_then f is_outside h = is_outside
throwing_then f is_cut h = is_cut

throwing_if : {A : Type 0} (b : Bool) {o p : Outcome A} → Throwing o → Throwing p → Throwing (if b then o else p)
throwing_if true h g = h
throwing_if false h g = g

run_if : {A : Type 0} (b : Bool) (m k : Run A) (s : State) → Throwing (m s) → Throwing (k s) → Throwing ((if b then m else k) s)
run_if true m k s h g = h
run_if false m k s h g = g

in_core_throws : {A : Type 0} (o : Option A) (s : State) → Throwing (in_core o s)
in_core_throws None s = is_outside
in_core_throws (Some a) s = is_done

reply_throws : (rs : List Reply) (s : State) → Throwing (take_reply rs s)
reply_throws [] s = is_cut
reply_throws (Gives v ∷ rs) s = throwing_if (is_data v) is_done is_outside
reply_throws (Throws v ∷ rs) s = throwing_if (is_data v) is_thrown is_outside
reply_throws (Back k this args ∷ rs) s = is_outside

host_throws : (x : List ℕ) (s : State) → Throwing (read_host x s)
unfolding ask
host_throws x s = run_if (bytes_eq x (codes "undefined")) _ _ s is_done (run_if (bytes_eq x (codes "NaN")) _ _ s is_done (run_if (bytes_eq x (codes "Infinity") || bytes_eq x (codes "arguments")) _ _ s is_outside (reply_throws s.replies _)))

cell_throws : (o : Option Cell) (s : State) → Throwing (held_value o s)
cell_throws None s = is_outside
cell_throws (Some c) s = in_core_throws c.held s

bound_throws : (x : Name) (o : Option ℕ) (s : State) → Throwing (read_bound x o s)
bound_throws x None s = is_outside
bound_throws x (Some k) s = cell_throws (cell_at s x k) s

read_throws : (mark : ℕ) (x : Name) (c : Context) (s : State) → Throwing (read mark x c s)
unfolding read
read_throws mark x c s = run_if (is_unresolved mark x) _ _ s (host_throws x.text s) (bound_throws x (c.env x) s)

field_throws : (k : List ℕ) (v : Value) (s : State) → Throwing (one_field k v s)
field_throws k v s = run_if (bytes_eq k (codes "__proto__")) _ _ s is_outside is_done

merged_throws : (fs : Fields) (v : Value) (s : State) → Throwing (merged fs v s)
merged_throws fs (Record gs) s = is_done
merged_throws fs _ s = is_outside

-- what such an object does depends on the environment alone

read_env : (mark : ℕ) (x : Name) (c d : Context) → c.env ≡ d.env → (s : State) → read mark x c s ≡ read mark x d s
unfolding read
read_env mark x c d e s = ap (λ (f : Env). found f) e
  where
    found : Env → Outcome Value
    found f = (if is_unresolved mark x then read_host x.text else read_bound x (f x)) s

module _ (mark n : ℕ) (call call' : Caller) (c d : Context) (e : c.env ≡ d.env) where
  fields_same : {props : Forest} → NamesOnly props → (fs : Fields) (s : State) → object_fields (evals mark n call props) fs c s ≡ object_fields (evals mark n call' props) fs d s
  unfolding eval act evals object_fields and_then
  fields_same no_property fs s = refl
  fields_same (short x {ts = ts} h) fs s =
      ap (λ o. and_then (and_then o (one_field x.text)) (λ v t. and_then (merged fs v t) (λ gs. object_fields (evals mark n call ts) gs c))) (read_env mark x c d e s)
      ∙ ap (λ (k : Fields → Run Fields). and_then (and_then (read mark x d s) (one_field x.text)) (λ v t. and_then (merged fs v t) k)) (fun_ext (λ gs. fun_ext (λ t. fields_same h gs t)))
  fields_same (key_and_name k x {ts = ts} h) fs s =
      ap (λ o. and_then (and_then o (one_field (key_name k))) (λ v t. and_then (merged fs v t) (λ gs. object_fields (evals mark n call ts) gs c))) (read_env mark x c d e s)
      ∙ ap (λ (f : Fields → Run Fields). and_then (and_then (read mark x d s) (one_field (key_name k))) (λ v t. and_then (merged fs v t) f)) (fun_ext (λ gs. fun_ext (λ t. fields_same h gs t)))

fields_throw : (mark n : ℕ) (call : Caller) {props : Forest} → NamesOnly props → (c : Context) (fs : Fields) (s : State) → Throwing (object_fields (evals mark n call props) fs c s)
unfolding eval act evals object_fields and_then
fields_throw mark n call no_property c fs s = is_done
fields_throw mark n call (short x h) c fs s = throwing_then _ (throwing_then _ (read_throws mark x c s) (λ v t. field_throws x.text v t)) (λ v t. throwing_then _ (merged_throws fs v t) (λ gs r. fields_throw mark n call h c gs r))
fields_throw mark n call (key_and_name k x h) c fs s = throwing_then _ (throwing_then _ (read_throws mark x c s) (λ v t. field_throws (key_name k) v t)) (λ v t. throwing_then _ (merged_throws fs v t) (λ gs r. fields_throw mark n call h c gs r))

abbrev returns : Value → Run Value
returns v = jumps (Returned v)

abbrev as_record : Fields → Run Value
as_record fs = gives (Record fs)

abbrev ends : Value → Run Value
ends v = gives Undefined

finish : {o : Outcome Fields} → Throwing o → Refined (at_call (at_return (and_then (and_then (and_then o as_record) returns) ends))) (and_then o as_record)
unfolding and_then at_return
finish is_done = refl
finish is_thrown = refl
finish is_outside = tt
finish is_cut = tt

module _ (mark : ℕ) (ss rs ps bs us os : List Span) {props : Forest} (h : NamesOnly props) where
  called_runs : (n d : ℕ) (c : Context) (s : State)
      → Refined (eval mark n (call_at (eval mark n) d) (node Call ss (node (Fn None) rs (node Params ps ε ⊳ node Body bs (node Return us (node Object os props ⊳ ε) ⊳ ε) ⊳ ε) ⊳ ε)) c s) (eval mark n (call_at (eval mark n) d) (node Object os props) c s)
  unfolding eval act evals call_at invoke run_function bind_params in_scope all_values call_value Rattle.swc_ast.specs.Meaning.run_all and_then
  called_runs n zero c s = tt
  called_runs n (suc d) c s =
      subst (λ o. Refined (at_call (at_return (and_then (and_then (and_then o as_record) returns) ends))) (and_then (object_fields (evals mark n (call_at (eval mark n) (suc d)) props) nofield c s) as_record))
      (fields_same mark n (call_at (eval mark n) (suc d)) (call_at (eval mark n) d) c (record { env = c.env; this = Undefined; labels = [] }) refl h nofield s)
      (finish (fields_throw mark n (call_at (eval mark n) (suc d)) h c nofield s))

  -- `(function () { return { .. }; })()`
  pub called_exact : Exact mark (object_call ss rs ps bs us os props) (node Object os props)
  called_exact = record { by = λ n d c. record { by = λ s. called_runs n d c s } }
