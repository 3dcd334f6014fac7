-- To run expressions in order is to run what is left of them where no value is used.
use Rattle.std.proofs.Common.{◌≡◌, ℕ, Bool, true, false, not, ◌&&◌, ◌||◌, if◌then◌else◌, List, [], ◌∷◌, Option, Some, None, refl, sym, ap, ◌∙◌, bytes_eq, codes}
use Rattle.std.proofs.lemmas.Bool.{false≢true, and_from}
use Rattle.swc_ast.specs.declared.Span.{Span}
use Rattle.swc_ast.specs.declared.AssignOp.TheVariants.{Assign as Plain}
use Rattle.swc_ast.specs.declared.BinaryOp.TheVariants.{NullishCoalescing}
use Rattle.swc_ast.specs.Tree.{Text, Name, Key, ItemKind, Plain as PlainItem, Spread, Hole, Read, Assign, Template, KeyValue, PlainKey, Call, New, Fn, Arrow, Tree, node, Forest, ε, ◌⊳◌}
use Rattle.swc_ast.specs.Value.{Value, Undefined, Text as TextValue, Items, Record, Values, ∅, ◌▹◌, Fields, nofield, Run, and_then, Context, Meaning}
use Rattle.swc_ast.specs.Operators.{truthy, values_append}
use Rattle.swc_ast.specs.Scope.{joined}
use Rattle.swc_ast.specs.Meaning.{◌>>=◌, gives, call_value, make_value, is_unresolved, all_values, run_all, spread_items, array_items, merged, object_fields, template_text, operate, act, eval, evals}
use Rattle.swc_ast.specs.Call.{call_at}
use Rattle.swc_utils.specs.Pure.{pure, is_pure_callee}
use Rattle.pass_rules.specs.Values.{is_nullish_type}
use Rattle.meaning_proofs.specs.Exact.{Refines}
use Rattle.swc_utils.specs.Holds.{Any, Keeps, HasType}
use Rattle.swc_utils.proofs.RunEffects.{drop, array_dropped, pure_dropped}
use Rattle.swc_utils.proofs.Known.{truth_holds}
use Rattle.swc_utils.proofs.Pure.{pure_is_still, calls_quiet}
use Rattle.swc_utils.proofs.Refines.{refines_same, refines_then, refines_drop, refines_trans, refines_assoc}
use Rattle.pass_proofs.proofs.Refines.{refines_path, refines_where}
use Rattle.pass_proofs.proofs.Truths.{truth_keeps}
use Rattle.pass_proofs.proofs.Runs.{bind_chain, bind_same}
use Rattle.swc_utils.proofs.Typed.{type_holds}
use Rattle.branch_proofs.proofs.Becoming.{left_of}
use Rattle.branch_rules.specs.Ignored.{as_one, Opens, operand, sides, items, properties, texts, arguments, new_arguments, Ignores, stays, goes, itself, opened, sequence, right_goes, right_left, right_runs, right_skipped, never_nullish, always_nullish, items_left, properties_left, arm_runs, arms_go, second_goes, first_goes, arms_left, IgnoresAll, none_left, one_goes, one_left, one_opens, ItemsLeft, no_items, item_goes, item_left, spread_stays, hole_goes, PropertiesLeft, no_properties, property_goes, property_stays}
use Rattle.branch_proofs.proofs.Becomes.{run_behind}
use Rattle.branch_proofs.proofs.Dropped.{Idle, idle_leaves, drop_then, then_idle, drop_both, dropped_first, made_dropped, turn_is, values_dropped, template_dropped, operand_idle, operate_idle, operate_both, operate_right, operate_runs, operate_skipped, nullish_by_type, nullish_left, if_idle, if_both, if_and, if_or, merged_left, merged_both, given_idle, gone, left_dropped}
use Rattle.branch_proofs.proofs.Itself.{itself_exact}
use Rattle.branch_proofs.proofs.Properties.{object_run}
use Rattle.swc_utils.specs.declared.answers.ValueType.{ValueType}
use Rattle.swc_utils.specs.Types.{type_of}
use Rattle.swc_utils.proofs.Ends.{keeps_yields}

hole_leaves : (ks : List ItemKind) (ms : List Meaning) (c : Context) {k : Run Value} → Refines (drop (array_items (Hole ∷ ks) ms c)) k
unfolding array_items
hole_leaves ks ms c = left_dropped Values

fields_ended : (fs gs : Fields) (c : Context) → Refines (drop (object_fields [] fs c)) (drop (object_fields [] gs c))
unfolding object_fields and_then
fields_ended fs gs c = refines_same (gives Undefined)

field_gone : (m : Meaning) (ms : List Meaning) (fs : Fields) (c : Context) {h : Run Value} → Keeps Any (m c) → ((ps : Fields) → Refines (drop (object_fields ms ps c)) h) → Refines (drop (object_fields (m ∷ ms) fs c)) h
unfolding object_fields
field_gone m ms fs c q i = refines_assoc (m c) _ (λ v. gives Undefined) (refines_drop q (λ v _. merged_left fs v (λ ps. object_fields ms ps c) _ i))

field_stayed : (m : Meaning) (ms ns : List Meaning) (fs gs : Fields) (c : Context) → ((ps qs : Fields) → Refines (drop (object_fields ms ps c)) (drop (object_fields ns qs c))) → Refines (drop (object_fields (m ∷ ms) fs c)) (drop (object_fields (m ∷ ns) gs c))
unfolding object_fields
field_stayed m ms ns fs gs c i = drop_both (m c) (λ v. merged fs v >>= λ ps. object_fields ms ps c) (λ v. merged gs v >>= λ qs. object_fields ns qs c) (λ v. merged_both fs gs v (λ ps. object_fields ms ps c) (λ qs. object_fields ns qs c) i)

-- `x = x`
itself_idle : (mark n d : ℕ) (x : Name) (ss rs : List Span) (c : Context) → is_unresolved mark x ≡ false → Idle (eval mark n (call_at (eval mark n) d) (node (Assign Plain x) ss (node (Read x) rs ε ⊳ ε)) c)
itself_idle mark n d x ss rs c e = refines_trans (refines_then ((itself_exact mark x ss rs rs e).by n d c) (λ v. refines_same (gives Undefined))) (pure_dropped mark n d (node (Read x) rs ε) c (ap (λ b. not (b && not (bytes_eq x.text (codes "undefined") || (bytes_eq x.text (codes "NaN") || bytes_eq x.text (codes "Infinity"))))) e))

property_pure : (mark : ℕ) (k : Key) (ss rs : List Span) (v : Tree) → pure mark v ≡ true → pure mark (node KeyValue ss (node (PlainKey k) rs ε ⊳ v ⊳ ε)) ≡ true
property_pure mark k ss rs v e = and_from (pure mark v) true e refl

module _ (mark n d : ℕ) where
  abbrev does : Tree → Meaning
  does = eval mark n (call_at (eval mark n) d)

  abbrev runs : Forest → Meaning
  runs ts = run_all (evals mark n (call_at (eval mark n) d) ts)

  -- what is left of a tree, in front of what is left behind it
  put_before : (t : Tree) (cs ts us : Forest) (c : Context) → Refines (drop (does t c)) (runs cs c) → Refines (runs ts c) (runs us c) → Refines (runs (t ⊳ ts) c) (runs (joined cs us) c)
  unfolding run_all evals
  put_before t cs ts us c h i = refines_trans (refines_path (dropped_first (does t c) (runs ts c))) (refines_trans (refines_then h (λ v. i)) (refines_path (sym (run_behind mark n (call_at (eval mark n) d) cs us c))))

  -- a known test
  arm_is : (known : Bool) (a b : Tree) (c : Context) (q : Bool) → q ≡ known → drop (if q then does a c else does b c) ≡ drop (does (if known then a else b) c)
  arm_is true a b c q e = ap (λ (z : Bool). drop (if z then does a c else does b c)) e
  arm_is false a b c q e = ap (λ (z : Bool). drop (if z then does a c else does b c)) e

  type_keeps : (t : Tree) (τ : ValueType) → pure mark t ≡ true → type_of mark t ≡ Some τ → (c : Context) → Keeps (HasType τ) (does t c)
  type_keeps t τ p e c = keeps_yields (pure_is_still mark n d t p c) (type_holds mark n (call_at (eval mark n) d) t τ e c)

  -- items of arrays
  item_is : (ks : List ItemKind) (m : Meaning) (ms : List Meaning) (c : Context) → drop (array_items (PlainItem ∷ ks) (m ∷ ms) c) ≡ (m c >>= λ v. drop (array_items ks ms c))
  unfolding array_items and_then
  item_is ks m ms c = bind_chain (m c) _ (λ v. gives Undefined) ∙ bind_same (m c) (λ v. made_dropped (array_items ks ms c) (λ ws. values_append (v ▹ ∅) ws))

  spread_is : (ks : List ItemKind) (m : Meaning) (ms : List Meaning) (c : Context) → drop (array_items (Spread ∷ ks) (m ∷ ms) c) ≡ (m c >>= λ v. spread_items v >>= λ vs. drop (array_items ks ms c))
  unfolding array_items and_then
  spread_is ks m ms c = bind_chain (m c) _ (λ v. gives Undefined) ∙ bind_same (m c) (λ v. bind_chain (spread_items v) _ (λ v. gives Undefined) ∙ bind_same (spread_items v) (λ vs. made_dropped (array_items ks ms c) (λ ws. values_append vs ws)))

  -- calls
  callee_idle : (f : Tree) (cs : Forest) (ss : List Span) (c : Context) → is_pure_callee f ≡ true → Refines (drop (does (node Call ss (f ⊳ cs)) c)) (runs cs c)
  unfolding eval act evals and_then call_value
  callee_idle (node (Fn None) rs us) cs ss c h = refines_trans (then_idle (all_values (evals mark n (call_at (eval mark n) d) cs) c) _ (λ vs. refines_drop ((calls_quiet mark n d).by (node (Fn None) rs us) c.env Undefined Undefined vs h) (λ v _. refines_same (gives Undefined)))) (refines_path (values_dropped (evals mark n (call_at (eval mark n) d) cs) c))
  callee_idle (node Arrow rs us) cs ss c h = refines_trans (then_idle (all_values (evals mark n (call_at (eval mark n) d) cs) c) _ (λ vs. refines_drop ((calls_quiet mark n d).by (node Arrow rs us) c.env c.this Undefined vs h) (λ v _. refines_same (gives Undefined)))) (refines_path (values_dropped (evals mark n (call_at (eval mark n) d) cs) c))
  callee_idle _ cs ss c h = absurd (false≢true h)

  new_idle : (f : Tree) (cs : Forest) (ss : List Span) (c : Context) → is_pure_callee f ≡ true → Refines (drop (does (node New ss (f ⊳ cs)) c)) (runs cs c)
  unfolding eval act evals and_then make_value
  new_idle (node (Fn None) rs us) cs ss c h = refines_trans (then_idle (all_values (evals mark n (call_at (eval mark n) d) cs) c) _ (λ vs. idle_leaves Value)) (refines_path (values_dropped (evals mark n (call_at (eval mark n) d) cs) c))
  new_idle (node Arrow rs us) cs ss c h = refines_trans (then_idle (all_values (evals mark n (call_at (eval mark n) d) cs) c) _ (λ vs. idle_leaves Value)) (refines_path (values_dropped (evals mark n (call_at (eval mark n) d) cs) c))
  new_idle _ cs ss c h = absurd (false≢true h)

  -- a template
  texts_idle : (qs : List (Text × Bool)) (ss : List Span) (cs : Forest) (c : Context) → Refines (drop (does (node (Template qs) ss cs) c)) (runs cs c)
  unfolding eval act
  texts_idle qs ss cs c = refines_trans (refines_path (made_dropped (template_text qs (evals mark n (call_at (eval mark n) d) cs) c) TextValue)) (template_dropped qs (evals mark n (call_at (eval mark n) d) cs) c)

  -- several as one
  one_run : (rs : List Span) (us : Forest) (c : Context) → Refines (runs us c) (runs (left_of (as_one rs us)) c)
  unfolding eval act evals run_all
  one_run rs ε c = refines_same _
  one_run rs (t ⊳ ε) c = refines_same _
  one_run rs (t ⊳ u ⊳ ts) c = refines_path (sym (turn_is (evals mark n (call_at (eval mark n) d) (t ⊳ u ⊳ ts)) c))

  -- the parts of an expression
  parts_run : {t : Tree} {cs : Forest} → Opens mark t cs → (c : Context) → Refines (drop (does t c)) (runs cs c)
  unfolding eval act evals run_all
  parts_run (operand op ss a) c = operand_idle mark n (call_at (eval mark n) d) op ss a c
  parts_run (sides op ss a b e) c = drop_then (does a c) (λ v. operate op v (does b c)) (λ v. drop (does b c)) (λ v. operate_both op v (does b c) e)
  parts_run (items ks ss cs e) c = array_dropped mark n (call_at (eval mark n) d) ks ss cs e c
  parts_run (properties ss cs e) c = object_run mark n d ss cs c
  parts_run (texts qs ss cs) c = texts_idle qs ss cs c
  parts_run (arguments ss f cs e) c = callee_idle f cs ss c e
  parts_run (new_arguments ss f cs x e) c = new_idle f cs ss c e

  mutual
    unfolding eval act evals run_all

    pub ignores_run : {k : Bool} {t : Tree} {o : Option Tree} → Ignores mark k t o → (c : Context) → Refines (drop (does t c)) (runs (left_of o) c)
    ignores_run (stays t) c = refines_same _
    ignores_run (goes t x e) c = pure_dropped mark n d t c e
    ignores_run (itself x ss rs e) c = itself_idle mark n d x ss rs c e
    ignores_run (opened {cs = cs} {us = us} rs p r) c = refines_trans (parts_run p c) (refines_trans (ignores_all_run r c) (one_run rs us c))
    ignores_run (sequence ss rs cs {us} r) c = refines_trans (refines_path (turn_is (evals mark n (call_at (eval mark n) d) cs) c)) (refines_trans (ignores_all_run r c) (one_run rs us c))
    ignores_run (right_goes op ss a b m h r) c = refines_trans (then_idle (does a c) (λ v. operate op v (does b c)) (λ v. operate_idle op v (does b c) (ignores_run h c))) (ignores_run r c)
    ignores_run (right_left op ss rs a b v m h) c = drop_both (does a c) (λ w. operate op w (does b c)) (λ w. operate op w (does v c)) (λ w. operate_right op w (does b c) (does v c) m (ignores_run h c))
    ignores_run (right_runs op ss a b known p e h r) c = refines_trans (refines_assoc (does a c) (λ v. operate op v (does b c)) (λ v. gives Undefined) (refines_drop (truth_keeps mark n d a known p e c) (λ v t. refines_path (ap drop (operate_runs op known v (does b c) h t))))) (ignores_run r c)
    ignores_run (right_skipped op ss a b known e h r) c = refines_trans (refines_assoc (does a c) (λ v. operate op v (does b c)) (λ v. gives Undefined) (refines_where (truth_holds mark n (call_at (eval mark n) d) a known e c) (λ v t. given_idle v (operate_skipped op known v (does b c) h t)))) (ignores_run r c)
    ignores_run (never_nullish ss a b τ e h r) c = refines_trans (refines_assoc (does a c) (λ v. operate NullishCoalescing v (does b c)) (λ v. gives Undefined) (refines_where (type_holds mark n (call_at (eval mark n) d) a τ e c) (λ v t. given_idle v (nullish_left v (does b c) false (nullish_by_type v ∙ ap is_nullish_type t ∙ h))))) (ignores_run r c)
    ignores_run (always_nullish ss a b τ p e h r) c = refines_trans (refines_assoc (does a c) (λ v. operate NullishCoalescing v (does b c)) (λ v. gives Undefined) (refines_drop (type_keeps a τ p e c) (λ v t. refines_path (ap drop (nullish_left v (does b c) true (nullish_by_type v ∙ ap is_nullish_type t ∙ h)))))) (ignores_run r c)
    ignores_run (items_left ks ls ss rs cs vs h) c = refines_trans (refines_path (made_dropped (array_items ks (evals mark n (call_at (eval mark n) d) cs) c) Items)) (refines_trans (items_run h c) (refines_path (sym (made_dropped (array_items ls (evals mark n (call_at (eval mark n) d) vs) c) Items))))
    ignores_run (properties_left ss rs cs vs h) c = refines_trans (refines_path (made_dropped (object_fields (evals mark n (call_at (eval mark n) d) cs) nofield c) Record)) (refines_trans (properties_run h nofield nofield c) (refines_path (sym (made_dropped (object_fields (evals mark n (call_at (eval mark n) d) vs) nofield c) Record))))
    ignores_run (arm_runs ss t a b known p e r) c = refines_trans (refines_assoc (does t c) _ (λ v. gives Undefined) (refines_drop (truth_keeps mark n d t known p e c) (λ v q. refines_path (arm_is known a b c (truthy v) q)))) (ignores_run r c)
    ignores_run (arms_go ss t a b h i r) c = refines_trans (then_idle (does t c) _ (λ v. if_idle (truthy v) (does a c) (does b c) (ignores_run h c) (ignores_run i c))) (ignores_run r c)
    ignores_run (second_goes ss rs t a b v h i) c = drop_both (does t c) _ _ (λ w. if_and (truthy w) w (does a c) (does b c) (does v c) refl (ignores_run h c) (ignores_run i c))
    ignores_run (first_goes ss rs t a b v h i) c = drop_both (does t c) _ _ (λ w. if_or (truthy w) w (does a c) (does b c) (does v c) refl (ignores_run h c) (ignores_run i c))
    ignores_run (arms_left ss rs t a b v w h i k) c = drop_both (does t c) _ _ (λ x. if_both (truthy x) (does a c) (does b c) (does v c) (does w c) (ignores_run h c) (ignores_run i c))

    pub ignores_all_run : {k : Bool} {ts us : Forest} → IgnoresAll mark k ts us → (c : Context) → Refines (runs ts c) (runs us c)
    ignores_all_run none_left c = refines_same _
    ignores_all_run (one_goes t {ts} {us} h r) c = put_before t ε ts us c (ignores_run h c) (ignores_all_run r c)
    ignores_all_run (one_left t u {ts} {us} h r) c = put_before t (u ⊳ ε) ts us c (ignores_run h c) (ignores_all_run r c)
    ignores_all_run (one_opens t ss vs {ts} {us} h r) c = put_before t vs ts us c (refines_trans (ignores_run h c) (refines_path (turn_is (evals mark n (call_at (eval mark n) d) vs) c))) (ignores_all_run r c)

    items_run : {k : Bool} {ks ls : List ItemKind} {cs vs : Forest} → ItemsLeft mark k ks cs ls vs → (c : Context) → Refines (drop (array_items ks (evals mark n (call_at (eval mark n) d) cs) c)) (drop (array_items ls (evals mark n (call_at (eval mark n) d) vs) c))
    items_run no_items c = refines_same _
    items_run (item_goes t {ks} {ls} {cs} {vs} h r) c = refines_trans (refines_path (item_is ks (does t) (evals mark n (call_at (eval mark n) d) cs) c ∙ dropped_first (does t c) _)) (refines_trans (refines_then (ignores_run h c) (λ v. refines_same _)) (gone (items_run r c)))
    items_run (item_left t v {ks} {ls} {cs} {vs} h r) c = refines_trans (refines_path (item_is ks (does t) (evals mark n (call_at (eval mark n) d) cs) c ∙ dropped_first (does t c) _)) (refines_trans (refines_then (ignores_run h c) (λ w. items_run r c)) (refines_path (sym (item_is ls (does v) (evals mark n (call_at (eval mark n) d) vs) c ∙ dropped_first (does v c) _))))
    items_run (spread_stays t {ks} {ls} {cs} {vs} r) c = refines_trans (refines_path (spread_is ks (does t) (evals mark n (call_at (eval mark n) d) cs) c)) (refines_trans (refines_then (refines_same (does t c)) (λ v. refines_then (refines_same (spread_items v)) (λ ws. items_run r c))) (refines_path (sym (spread_is ls (does t) (evals mark n (call_at (eval mark n) d) vs) c))))
    items_run (hole_goes {ks = ks} {ls = ls} {cs = cs} {vs = vs} r) c = hole_leaves ks (evals mark n (call_at (eval mark n) d) cs) c

    properties_run : {k : Bool} {cs vs : Forest} → PropertiesLeft mark k cs vs → (fs gs : Fields) (c : Context) → Refines (drop (object_fields (evals mark n (call_at (eval mark n) d) cs) fs c)) (drop (object_fields (evals mark n (call_at (eval mark n) d) vs) gs c))
    properties_run no_properties fs gs c = fields_ended fs gs c
    properties_run (property_goes k ss rs v {cs} {vs} l e r) fs gs c = field_gone (does (node KeyValue ss (node (PlainKey k) rs ε ⊳ v ⊳ ε))) (evals mark n (call_at (eval mark n) d) cs) fs c (pure_is_still mark n d (node KeyValue ss (node (PlainKey k) rs ε ⊳ v ⊳ ε)) (property_pure mark k ss rs v e) c) (λ ps. properties_run r ps gs c)
    properties_run (property_stays t {cs} {vs} r) fs gs c = field_stayed (does t) (evals mark n (call_at (eval mark n) d) cs) (evals mark n (call_at (eval mark n) d) vs) fs gs c (λ ps qs. properties_run r ps qs c)
