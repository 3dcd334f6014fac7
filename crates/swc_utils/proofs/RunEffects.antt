-- To run an expression and drop its value is to run its effects in order.
use Rattle.std.proofs.Common.{◌≡◌, ℕ, Bool, true, false, if◌then◌else◌, List, [], ◌∷◌, ◌++◌, Option, Some, None, refl, sym, ap, subst, bytes_eq, codes}
use Rattle.std.proofs.lemmas.Bool.{false≢true, not_from_false}
use Rattle.swc_ast.specs.declared.UnaryOp.TheVariants.{Delete}
use Rattle.swc_ast.specs.declared.BinaryOp.{BinaryOp}
use Rattle.swc_ast.specs.declared.BinaryOp.TheVariants.{LogicalOr, LogicalAnd, In, InstanceOf, NullishCoalescing}
use Rattle.swc_ast.specs.declared.Span.{Span}
use Rattle.swc_ast.specs.Tree.{Name, ItemKind, Plain, Spread, Hole, Read, Template, Array, Object, KeyValue, Shorthand, Method, ComputedKey, Unary, Binary, Seq, Tree, node, Forest, ε, ◌⊳◌}
use Rattle.swc_ast.specs.Value.{Value, Undefined, Text, Items, Record, Values, ∅, ◌▹◌, Fields, nofield, field, Run, and_then, Context, Meaning}
use Rattle.swc_ast.specs.Scope.{joined}
use Rattle.swc_ast.specs.Meaning.{◌>>=◌, gives, leaves, in_core, read, Caller, shape0, shape1, shape2, in_turn, run_all, array_items, merged, object_fields, key_text, one_field, compute, operate, template_text, act, eval, evals}
use Rattle.swc_ast.specs.Operators.{values_append, to_text, unary_value}
use Rattle.swc_ast.specs.Call.{call_at}
use Rattle.swc_utils.specs.Globals.{is_host_name}
use Rattle.swc_utils.specs.Pure.{has_spread, pure}
use Rattle.swc_utils.specs.Effects.{is_strict, has_record_spread, unless_pure, effects, effects_all}
use Rattle.meaning_proofs.specs.Exact.{Refines}
use Rattle.swc_utils.proofs.Ends.{core_keeps}
use Rattle.swc_utils.proofs.Pure.{pure_is_still, read_still}
use Rattle.swc_utils.proofs.Refines.{refines_same, refines_then, refines_drop, refines_trans, refines_assoc, refines_chain, refines_leaves}

-- the value is dropped
abbrev pub drop : {A : Type 0} → Run A → Run Value
drop m = m >>= λ a. gives Undefined

-- nothing is noticed of it
abbrev Idle : {A : Type 0} → Run A → Type 0
Idle m = Refines (drop m) (gives Undefined)

idle_core : {A : Type 0} (o : Option A) → Idle (in_core o)
unfolding and_then
idle_core None = refines_leaves
idle_core (Some a) = refines_same (gives Undefined)

idle_gives : {A : Type 0} (a : A) → Idle (gives a)
unfolding and_then
idle_gives a = refines_same (gives Undefined)

idle_leaves : (A : Type 0) → Idle {A = A} leaves
unfolding and_then
idle_leaves A = refines_leaves

-- what follows a part is idle
then_idle : {A B : Type 0} (m : Run A) (k : A → Run B) → ((a : A) → Idle (k a)) → Refines (drop (m >>= k)) (drop m)
then_idle m k h = refines_assoc m k (λ b. gives Undefined) (refines_then (refines_same m) h)

-- a part, and then another
then_both : {A B : Type 0} (m : Run A) (k : A → Run B) (h : Run Value) → ((a : A) → Refines (drop (k a)) h) → Refines (drop (m >>= k)) (m >>= λ a. h)
then_both m k h i = refines_assoc m k (λ b. gives Undefined) (refines_then (refines_same m) i)

-- lists

pub evals_joined : (mark n : ℕ) (call : Caller) (ts us : Forest) → evals mark n call (joined ts us) ≡ evals mark n call ts ++ evals mark n call us
unfolding evals
evals_joined mark n call ε us = refl
evals_joined mark n call (t ⊳ ts) us = ap (λ ms. eval mark n call t ∷ ms) (evals_joined mark n call ts us)

all_then : (ms ks : List Meaning) (c : Context) (n : Run Value) → Refines n (run_all ms c >>= λ v. run_all ks c) → Refines n (run_all (ms ++ ks) c)
unfolding run_all and_then
all_then [] ks c n h = h
all_then (m ∷ ms) ks c n h = refines_trans h (refines_assoc (m c) (λ v. run_all ms c) (λ v. run_all ks c) (refines_then (refines_same (m c)) (λ v. all_then ms ks c _ (refines_same _))))

pub parts_kept : (m : Meaning) (ms es fs : List Meaning) (c : Context) → Refines (drop (m c)) (run_all es c) → Refines (run_all ms c) (run_all fs c) → Refines (run_all (m ∷ ms) c) (run_all (es ++ fs) c)
unfolding run_all and_then
parts_kept m ms es fs c h i = all_then es fs c _ (refines_trans (refines_chain (m c) (λ v. gives Undefined) (λ v. run_all ms c) (refines_same _)) (refines_then h (λ v. i)))

turn_dropped : (ms : List Meaning) (c : Context) → Refines (drop (in_turn ms c)) (run_all ms c)
unfolding in_turn run_all and_then
turn_dropped [] c = refines_same (gives Undefined)
turn_dropped (m ∷ []) c = refines_same (drop (m c))
turn_dropped (m ∷ k ∷ ms) c = then_both (m c) _ _ (λ v. turn_dropped (k ∷ ms) c)

-- an item's value is used, and dropped in the end
value_dropped : (vs : Values) (rest : Run Values) (h : Run Value) → Refines (drop rest) h → Refines (drop (rest >>= λ ws. gives (values_append vs ws))) h
value_dropped vs rest h i = refines_trans (then_idle rest (λ ws. gives (values_append vs ws)) (λ ws. idle_gives (values_append vs ws))) i

module _ (mark n : ℕ) (call : Caller) where
  -- items without a spread
  pub items_dropped : (ks : List ItemKind) (ts : Forest) → has_spread ks ≡ false → (c : Context) → Refines (drop (array_items ks (evals mark n call ts) c)) (run_all (evals mark n call ts) c)
  unfolding evals array_items run_all and_then
  items_dropped [] ε h c = refines_same (gives Undefined)
  items_dropped [] (t ⊳ ts) h c = refines_leaves
  items_dropped (Hole ∷ ks) ts h c = refines_leaves
  items_dropped (Spread ∷ ks) ts h c = absurd (false≢true (sym h))
  items_dropped (Plain ∷ ks) ε h c = refines_leaves
  items_dropped (Plain ∷ ks) (t ⊳ ts) h c = then_both (eval mark n call t c) _ _ (λ v. value_dropped (v ▹ ∅) _ _ (items_dropped ks ts h c))

  pub array_dropped : (ks : List ItemKind) (ss : List Span) (ts : Forest) → has_spread ks ≡ false → (c : Context) → Refines (drop (eval mark n call (node (Array ks) ss ts) c)) (run_all (evals mark n call ts) c)
  unfolding eval act
  array_dropped ks ss ts h c = refines_trans (then_idle (array_items ks (evals mark n call ts) c) (λ vs. gives (Items vs)) (λ vs. idle_gives (Items vs))) (items_dropped ks ts h c)

  -- what follows an expression of a template
  text_dropped : (v : Value) (front : List ℕ) (rest : Run (List ℕ)) (h : Run Value) → Refines (drop rest) h → Refines (drop (in_core (to_text v) >>= λ t. rest >>= λ u. gives (front ++ t ++ u))) h
  text_dropped v front rest h i = refines_assoc (in_core (to_text v)) _ _ (refines_drop (core_keeps (to_text v)) (λ t _. refines_trans (then_idle rest (λ u. gives (front ++ t ++ u)) (λ u. idle_gives (front ++ t ++ u))) i))

  template_dropped : (qs : List (List ℕ × Bool)) (ts : Forest) (c : Context) → Refines (drop (template_text qs (evals mark n call ts) c)) (run_all (evals mark n call ts) c)
  unfolding evals template_text run_all and_then
  template_dropped [] ts c = refines_leaves
  template_dropped (q ∷ []) ε c = refines_same (gives Undefined)
  template_dropped (q ∷ r ∷ qs) ε c = refines_leaves
  template_dropped (q ∷ qs) (t ⊳ ts) c = then_both (eval mark n call t c) _ _ (λ v. text_dropped v q.0 _ _ (template_dropped qs ts c))

-- shapes

shape1_dropped : (f : Meaning → Meaning) (ms : List Meaning) (c : Context) → ((a : Meaning) → Refines (drop (f a c)) (drop (a c))) → Refines (drop (shape1 f ms c)) (run_all ms c)
unfolding run_all and_then
shape1_dropped f (a ∷ []) c h = h a
shape1_dropped f _ c h = refines_leaves

shape2_dropped : (f : Meaning → Meaning → Meaning) (ms : List Meaning) (c : Context) → ((a b : Meaning) → Refines (drop (f a b c)) (a c >>= λ v. drop (b c))) → Refines (drop (shape2 f ms c)) (run_all ms c)
unfolding run_all and_then
shape2_dropped f (a ∷ b ∷ []) c h = h a b
shape2_dropped f _ c h = refines_leaves

shape0_dropped : (f : Meaning) (ms : List Meaning) (c : Context) (k : Run Value) → Refines (drop (f c)) k → Refines (drop (shape0 f ms c)) k
unfolding and_then
shape0_dropped f [] c k h = h
shape0_dropped f (m ∷ ms) c k h = refines_leaves

operate_idle : (op : BinaryOp) (v : Value) (right : Run Value) → is_strict op ≡ true → Refines (drop (operate op v right)) (drop right)
unfolding operate
operate_idle LogicalOr v right h = absurd (false≢true h)
operate_idle LogicalAnd v right h = absurd (false≢true h)
operate_idle NullishCoalescing v right h = absurd (false≢true h)
operate_idle In v right h = absurd (false≢true h)
operate_idle InstanceOf v right h = absurd (false≢true h)
operate_idle op v right h = then_idle right (λ b. compute op v b) (λ b. idle_core _)

one_field_idle : (k : List ℕ) (v : Value) → Idle (one_field k v)
one_field_idle k v = by_key (bytes_eq k (codes "__proto__"))
  where
    by_key : (b : Bool) → Idle (if b then leaves else gives (Record (field k v nofield)))
    by_key true = idle_leaves Value
    by_key false = idle_gives (Record (field k v nofield))

key_idle : (w v : Value) → Idle (key_text w >>= λ t. one_field t v)
key_idle w v = refines_trans (then_idle (key_text w) (λ t. one_field t v) (λ t. one_field_idle t v)) (idle_core (to_text w))

-- the conversion of a key stands in front of the value
key_dropped : (w : Value) (value : Run Value) → Refines (drop (key_text w >>= λ t. value >>= λ v. one_field t v)) (drop value)
key_dropped w value = refines_assoc (key_text w) _ _ (refines_drop (core_keeps (to_text w)) (λ t _. then_idle value (λ v. one_field t v) (λ v. one_field_idle t v)))

merged_dropped : (fs : Fields) (v : Value) (rest : Fields → Run Fields) (h : Run Value) → ((gs : Fields) → Refines (drop (rest gs)) h) → Refines (drop (merged fs v >>= rest)) h
unfolding and_then
merged_dropped fs (Record gs) rest h i = i _
merged_dropped fs _ rest h i = refines_leaves

fields_dropped : (ms : List Meaning) (fs : Fields) (c : Context) → Refines (drop (object_fields ms fs c)) (run_all ms c)
unfolding object_fields run_all and_then
fields_dropped [] fs c = refines_same (gives Undefined)
fields_dropped (m ∷ ms) fs c = then_both (m c) _ _ (λ v. merged_dropped fs v (λ gs. object_fields ms gs c) _ (λ gs. fields_dropped ms gs c))

-- expressions

module _ (mark n d : ℕ) where
  pub pure_dropped : (t : Tree) (c : Context) → pure mark t ≡ true → Refines (drop (eval mark n (call_at (eval mark n) d) t c)) (gives Undefined)
  pure_dropped t c h = refines_drop (pure_is_still mark n d t h c) (λ v _. refines_same (gives Undefined))

  -- an expression that is its own effect, unless it is pure
  whole_kept : (t : Tree) (c : Context) (b : Bool) → pure mark t ≡ b → Refines (drop (eval mark n (call_at (eval mark n) d) t c)) (run_all (evals mark n (call_at (eval mark n) d) (if b then ε else t ⊳ ε)) c)
  unfolding run_all evals
  whole_kept t c true h = pure_dropped t c h
  whole_kept t c false h = refines_same _

  pub run_one : (t : Tree) (c : Context) → Refines (drop (eval mark n (call_at (eval mark n) d) t c)) (run_all (evals mark n (call_at (eval mark n) d) (t ⊳ ε)) c)
  unfolding run_all evals
  run_one t c = refines_same _

  spread_kept : (t : Tree) (us : Forest) (c : Context) (b : Bool) → (b ≡ false → Refines (drop (eval mark n (call_at (eval mark n) d) t c)) (run_all (evals mark n (call_at (eval mark n) d) us) c)) → Refines (drop (eval mark n (call_at (eval mark n) d) t c)) (run_all (evals mark n (call_at (eval mark n) d) (if b then t ⊳ ε else us)) c)
  unfolding run_all evals
  spread_kept t us c true h = refines_same _
  spread_kept t us c false h = h refl

  strict_kept : (t : Tree) (us : Forest) (c : Context) (b : Bool) → (b ≡ true → Refines (drop (eval mark n (call_at (eval mark n) d) t c)) (run_all (evals mark n (call_at (eval mark n) d) us) c)) → Refines (drop (eval mark n (call_at (eval mark n) d) t c)) (run_all (evals mark n (call_at (eval mark n) d) (if b then us else unless_pure mark t)) c)
  strict_kept t us c true h = h refl
  strict_kept t us c false h = whole_kept t c (pure mark t) refl

  shorthand_kept : (x : Name) (ss : List Span) (ts : Forest) (c : Context) (b : Bool) → is_host_name mark x ≡ b → Refines (drop (eval mark n (call_at (eval mark n) d) (node (Shorthand x) ss ts) c)) (run_all (evals mark n (call_at (eval mark n) d) (if b then node (Read x) ss ε ⊳ ε else ε)) c)
  unfolding eval act run_all and_then
  shorthand_kept x ss ts c true h = shape0_dropped _ (evals mark n (call_at (eval mark n) d) ts) c _ (then_idle (read mark x c) (λ v. one_field x.text v) (λ v. one_field_idle x.text v))
  shorthand_kept x ss ts c false h = shape0_dropped _ (evals mark n (call_at (eval mark n) d) ts) c _ (refines_trans (then_idle (read mark x c) (λ v. one_field x.text v) (λ v. one_field_idle x.text v)) (refines_drop (read_still mark x (not_from_false _ h) c) (λ v _. refines_same (gives Undefined))))

  mutual
    unfolding eval act

    pub effects_kept : (t : Tree) (c : Context) → Refines (drop (eval mark n (call_at (eval mark n) d) t c)) (run_all (evals mark n (call_at (eval mark n) d) (effects mark t)) c)
    effects_kept (node (Unary Delete) ss ts) c = run_one (node (Unary Delete) ss ts) c
    effects_kept (node (Unary op) ss ts) c = refines_trans (shape1_dropped _ (evals mark n (call_at (eval mark n) d) ts) c (λ a. then_idle (a c) (λ v. in_core (unary_value op v)) (λ v. idle_core _))) (all_kept ts c)
    effects_kept (node (Binary op) ss ts) c = strict_kept (node (Binary op) ss ts) (effects_all mark ts) c (is_strict op) (λ h. refines_trans (shape2_dropped _ (evals mark n (call_at (eval mark n) d) ts) c (λ a b. then_both (a c) (λ v. operate op v (b c)) _ (λ v. operate_idle op v (b c) h))) (all_kept ts c))
    effects_kept (node (Template qs) ss ts) c = refines_trans (then_idle (template_text qs (evals mark n (call_at (eval mark n) d) ts) c) (λ t. gives (Text t)) (λ t. idle_gives (Text t))) (refines_trans (template_dropped mark n (call_at (eval mark n) d) qs ts c) (all_kept ts c))
    effects_kept (node (Array ks) ss ts) c = spread_kept (node (Array ks) ss ts) (effects_all mark ts) c (has_spread ks) (λ h. refines_trans (then_idle (array_items ks (evals mark n (call_at (eval mark n) d) ts) c) (λ vs. gives (Items vs)) (λ vs. idle_gives (Items vs))) (refines_trans (items_dropped mark n (call_at (eval mark n) d) ks ts h c) (all_kept ts c)))
    effects_kept (node Object ss ts) c = spread_kept (node Object ss ts) (effects_all mark ts) c (has_record_spread ts) (λ h. refines_trans (then_idle (object_fields (evals mark n (call_at (eval mark n) d) ts) nofield c) (λ fs. gives (Record fs)) (λ fs. idle_gives (Record fs))) (refines_trans (fields_dropped (evals mark n (call_at (eval mark n) d) ts) nofield c) (all_kept ts c)))
    effects_kept (node KeyValue ss ts) c = refines_trans (shape2_dropped _ (evals mark n (call_at (eval mark n) d) ts) c (λ k m. then_both (k c) _ _ (λ w. key_dropped w (m c)))) (all_kept ts c)
    effects_kept (node ComputedKey ss ts) c = refines_trans (shape1_dropped _ (evals mark n (call_at (eval mark n) d) ts) c (λ a. refines_same _)) (all_kept ts c)
    effects_kept (node Method ss (k ⊳ p ⊳ b ⊳ ε)) c = refines_trans (then_idle (eval mark n (call_at (eval mark n) d) k c) _ (λ w. key_idle w _)) (effects_kept k c)
    effects_kept (node (Shorthand x) ss ts) c = shorthand_kept x ss ts c (is_host_name mark x) refl
    effects_kept (node Seq ss ts) c = refines_trans (turn_dropped (evals mark n (call_at (eval mark n) d) ts) c) (all_kept ts c)
    effects_kept (node l ss ts) c = whole_kept (node l ss ts) c (pure mark (node l ss ts)) refl

    pub all_kept : (ts : Forest) (c : Context) → Refines (run_all (evals mark n (call_at (eval mark n) d) ts) c) (run_all (evals mark n (call_at (eval mark n) d) (effects_all mark ts)) c)
    all_kept ε c = refines_same _
    all_kept (t ⊳ ts) c = subst (λ ms. Refines (run_all (evals mark n (call_at (eval mark n) d) (t ⊳ ts)) c) (run_all ms c)) (sym (evals_joined mark n (call_at (eval mark n) d) (effects mark t) (effects_all mark ts))) (parts_kept (eval mark n (call_at (eval mark n) d) t) (evals mark n (call_at (eval mark n) d) ts) _ _ c (effects_kept t c) (all_kept ts c))
