-- What is run of the properties of an object whose value is not used.
use Rattle.std.proofs.Common.{◌≡◌, ℕ, Bool, true, false, if◌then◌else◌, List, [], ◌∷◌, refl, sym, bytes_eq, codes}
use Rattle.std.proofs.lemmas.Bool.{not_from_false}
use Rattle.swc_ast.specs.declared.Span.{Span}
use Rattle.swc_ast.specs.Tree.{Name, Read, Object, KeyValue, Shorthand, Method, PlainKey, ComputedKey, Tree, node, Forest, ε, ◌⊳◌}
use Rattle.swc_ast.specs.Value.{Value, Undefined, Function, Record, Fields, nofield, field, Run, and_then, Context, Meaning}
use Rattle.swc_ast.specs.Operators.{to_text}
use Rattle.swc_ast.specs.Meaning.{◌>>=◌, gives, leaves, read, shape0, shape1, shape3, run_all, object_fields, key_text, one_field, act, eval, evals}
use Rattle.swc_ast.specs.Call.{call_at}
use Rattle.meaning_proofs.specs.Exact.{Refines}
use Rattle.swc_utils.specs.Globals.{is_host_name}
use Rattle.swc_utils.proofs.Ends.{core_keeps}
use Rattle.swc_utils.proofs.Pure.{read_still}
use Rattle.swc_utils.proofs.Refines.{refines_same, refines_then, refines_drop, refines_trans, refines_assoc, refines_leaves}
use Rattle.swc_utils.proofs.RunEffects.{drop}
use Rattle.pass_proofs.proofs.Refines.{refines_path}
use Rattle.branch_rules.specs.Ignored.{key_parts, property_parts, properties_parts}
use Rattle.branch_proofs.proofs.Becomes.{run_behind}
use Rattle.branch_proofs.proofs.Dropped.{Idle, idle_core, idle_leaves, drop_then, then_idle, made_dropped, merged_left, dropped_first}

gives_idle : {A : Type 0} (a : A) → Idle (gives a)
unfolding and_then
gives_idle a = refines_same _

-- one property

one_field_idle : (k : List ℕ) (v : Value) → Idle (one_field k v)
one_field_idle k v = by_key (bytes_eq k (codes "__proto__"))
  where
    by_key : (b : Bool) → Idle (if b then leaves else gives (Record (field k v nofield)))
    by_key true = idle_leaves Value
    by_key false = gives_idle (Record (field k v nofield))

key_idle : (w v : Value) → Idle (key_text w >>= λ t. one_field t v)
key_idle w v = refines_trans (then_idle (key_text w) (λ t. one_field t v) (λ t. one_field_idle t v)) (idle_core (to_text w))

key_then : (w : Value) (value : Run Value) → Refines (drop (key_text w >>= λ t. value >>= λ v. one_field t v)) (drop value)
key_then w value = refines_assoc (key_text w) _ _ (refines_drop (core_keeps (to_text w)) (λ t _. then_idle value (λ v. one_field t v) (λ v. one_field_idle t v)))

fields_run : (ms : List Meaning) (fs : Fields) (c : Context) → Refines (drop (object_fields ms fs c)) (run_all ms c)
unfolding object_fields run_all and_then
fields_run [] fs c = refines_same _
fields_run (m ∷ ms) fs c = drop_then (m c) _ _ (λ v. merged_left fs v (λ gs. object_fields ms gs c) _ (λ gs. fields_run ms gs c))

shape0_run : (f : Meaning) (ms : List Meaning) (c : Context) {k : Run Value} → Refines (drop (f c)) k → Refines (drop (shape0 f ms c)) k
unfolding and_then
shape0_run f [] c h = h
shape0_run f (m ∷ ms) c h = refines_leaves

shape1_run : (ms : List Meaning) (c : Context) → Refines (drop (shape1 (λ m. m) ms c)) (run_all ms c)
unfolding run_all and_then
shape1_run (a ∷ []) c = refines_same _
shape1_run [] c = refines_leaves
shape1_run (a ∷ b ∷ ms) c = refines_leaves

shape3_run : (f : Meaning → Meaning → Meaning → Meaning) (k : Meaning) (ms : List Meaning) (c : Context) → ((p b : Meaning) → Refines (drop (f k p b c)) (drop (k c))) → Refines (drop (shape3 f (k ∷ ms) c)) (drop (k c))
unfolding and_then
shape3_run f k (p ∷ b ∷ []) c h = h p b
shape3_run f k [] c h = refines_leaves
shape3_run f k (p ∷ []) c h = refines_leaves
shape3_run f k (p ∷ b ∷ a ∷ ms) c h = refines_leaves

module _ (mark n d : ℕ) where
  abbrev does : Tree → Meaning
  does = eval mark n (call_at (eval mark n) d)

  abbrev runs : Forest → Meaning
  runs ts = run_all (evals mark n (call_at (eval mark n) d) ts)

  run_itself : (t : Tree) (c : Context) → Refines (drop (does t c)) (runs (t ⊳ ε) c)
  unfolding run_all evals
  run_itself t c = refines_same _

  key_run : (k : Tree) (c : Context) → Refines (drop (does k c)) (runs (key_parts k) c)
  unfolding eval act evals run_all
  key_run (node ComputedKey ss ts) c = shape1_run (evals mark n (call_at (eval mark n) d) ts) c
  key_run (node (PlainKey k) ss ts) c = shape0_run _ (evals mark n (call_at (eval mark n) d) ts) c (gives_idle _)
  key_run k c = run_itself k c

  shorthand_run : (x : Name) (ss : List Span) (ts : Forest) (c : Context) (b : Bool) → is_host_name mark x ≡ b → Refines (drop (does (node (Shorthand x) ss ts) c)) (runs (if b then node (Read x) ss ε ⊳ ε else ε) c)
  unfolding eval act run_all and_then
  shorthand_run x ss ts c true h = shape0_run _ (evals mark n (call_at (eval mark n) d) ts) c (then_idle (read mark x c) (λ v. one_field x.text v) (λ v. one_field_idle x.text v))
  shorthand_run x ss ts c false h = shape0_run _ (evals mark n (call_at (eval mark n) d) ts) c (refines_trans (then_idle (read mark x c) (λ v. one_field x.text v) (λ v. one_field_idle x.text v)) (refines_drop (read_still mark x (not_from_false _ h) c) (λ v _. refines_same _)))

  method_run : (ss : List Span) (k : Tree) (ts : Forest) (c : Context) → Refines (drop (does (node Method ss (k ⊳ ts)) c)) (drop (does k c))
  unfolding eval act
  method_run ss k ts c = shape3_run (λ m p b c. m c >>= λ w. key_text w >>= λ t. one_field t (Function (node Method ss (k ⊳ ts)) c.env Undefined)) (does k) (evals mark n (call_at (eval mark n) d) ts) c (λ p b. then_idle (does k c) (λ w. key_text w >>= λ t. one_field t (Function (node Method ss (k ⊳ ts)) c.env Undefined)) (λ w. key_idle w (Function (node Method ss (k ⊳ ts)) c.env Undefined)))

  property_run : (t : Tree) (c : Context) → Refines (drop (does t c)) (runs (property_parts mark t) c)
  unfolding eval act evals run_all
  property_run (node KeyValue ss (k ⊳ v ⊳ ε)) c =
      refines_trans (drop_then (does k c) _ (λ w. drop (does v c)) (λ w. key_then w (does v c)))
      (refines_trans (refines_path (dropped_first (does k c) (drop (does v c))))
      (refines_trans (refines_then (key_run k c) (λ w. refines_same _)) (refines_path (sym (run_behind mark n (call_at (eval mark n) d) (key_parts k) (v ⊳ ε) c)))))
  property_run (node (Shorthand x) ss ts) c = shorthand_run x ss ts c (is_host_name mark x) refl
  property_run (node Method ss (k ⊳ ts)) c = refines_trans (method_run ss k ts c) (key_run k c)
  property_run t c = run_itself t c

  properties_opened : (ts : Forest) (c : Context) → Refines (runs ts c) (runs (properties_parts mark ts) c)
  unfolding evals run_all
  properties_opened ε c = refines_same _
  properties_opened (t ⊳ ts) c = refines_trans (refines_path (dropped_first (does t c) (runs ts c))) (refines_trans (refines_then (property_run t c) (λ v. properties_opened ts c)) (refines_path (sym (run_behind mark n (call_at (eval mark n) d) (property_parts mark t) (properties_parts mark ts) c))))

  pub object_run : (ss : List Span) (ts : Forest) (c : Context) → Refines (drop (does (node Object ss ts) c)) (runs (properties_parts mark ts) c)
  unfolding eval act
  object_run ss ts c = refines_trans (refines_path (made_dropped (object_fields (evals mark n (call_at (eval mark n) d) ts) nofield c) Record)) (refines_trans (fields_run (evals mark n (call_at (eval mark n) d) ts) nofield c) (properties_opened ts c))
