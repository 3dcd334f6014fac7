-- Runs whose value is dropped.
use Rattle.std.proofs.Common.{◌≡◌, ℕ, Bool, true, false, not, if◌then◌else◌, List, [], ◌∷◌, ◌++◌, Option, Some, None, refl, sym, ap, subst, ◌∙◌}
use Rattle.std.proofs.lemmas.Bool.{false≢true}
use Rattle.std.proofs.lemmas.Option.{none-some}
use Rattle.swc_ast.specs.declared.UnaryOp.{UnaryOp}
use Rattle.swc_ast.specs.declared.UnaryOp.TheVariants.{Delete}
use Rattle.swc_ast.specs.declared.BinaryOp.{BinaryOp}
use Rattle.swc_ast.specs.declared.BinaryOp.TheVariants.{LogicalOr, LogicalAnd, NullishCoalescing}
use Rattle.swc_ast.specs.declared.Span.{Span}
use Rattle.swc_ast.specs.Tree.{Unary, Tree, node, ε, ◌⊳◌}
use Rattle.swc_ast.specs.Value.{Value, Undefined, Record, ◌▹◌, Fields, Run, and_then, Context, Meaning}
use Rattle.swc_ast.specs.Operators.{truthy, to_text, is_nullish, is_nullish_prim, prim, Prim, undefined, null, nan, object, truth, num, text, put_fields, unary_value}
use Rattle.swc_ast.specs.Meaning.{◌>>=◌, gives, leaves, in_core, Caller, all_values, in_turn, run_all, merged, template_text, operate, short_circuits, shortened, compute, act, eval, evals}
use Rattle.swc_utils.specs.Types.{prim_type, value_type}
use Rattle.pass_rules.specs.Values.{is_nullish_type}
use Rattle.meaning_proofs.specs.Exact.{Refines}
use Rattle.swc_utils.proofs.Refines.{refines_same, refines_drop, refines_then, refines_trans, refines_assoc, refines_chain, refines_leaves}
use Rattle.pass_proofs.proofs.Refines.{refines_path}
use Rattle.pass_proofs.proofs.Runs.{bind_chain, bind_same}
use Rattle.swc_utils.proofs.Ends.{core_keeps}
use Rattle.swc_utils.proofs.RunEffects.{drop}
use Rattle.branch_rules.specs.Ignored.{may_skip, skips}

-- nothing is noticed of it
abbrev pub Idle : {A : Type 0} → Run A → Type 0
Idle m = Refines (drop m) (gives Undefined)

pub idle_core : {A : Type 0} (o : Option A) → Idle (in_core o)
unfolding and_then
idle_core None = refines_leaves
idle_core (Some a) = refines_same (gives Undefined)

pub idle_leaves : (A : Type 0) → Idle {A = A} leaves
unfolding and_then
idle_leaves A = refines_leaves

-- what follows a part
pub drop_then : {A B : Type 0} (m : Run A) (k : A → Run B) (h : A → Run Value) → ((a : A) → Refines (drop (k a)) (h a)) → Refines (drop (m >>= k)) (m >>= h)
drop_then m k h i = refines_assoc m k (λ b. gives Undefined) (refines_then (refines_same m) i)

pub then_idle : {A B : Type 0} (m : Run A) (k : A → Run B) → ((a : A) → Idle (k a)) → Refines (drop (m >>= k)) (drop m)
then_idle m k h = drop_then m k (λ a. gives Undefined) h

-- the same of two parts that follow one
pub drop_both : {A B D : Type 0} (m : Run A) (k : A → Run B) (h : A → Run D) → ((a : A) → Refines (drop (k a)) (drop (h a))) → Refines (drop (m >>= k)) (drop (m >>= h))
drop_both m k h i = refines_chain m h (λ b. gives Undefined) (drop_then m k (λ a. drop (h a)) i)

pub dropped_first : {A : Type 0} (m : Run Value) (k : Run A) → (m >>= λ v. k) ≡ (drop m >>= λ v. k)
unfolding and_then
dropped_first m k = sym (bind_chain m (λ v. gives Undefined) (λ v. k))

-- a value that is made of what a part gives
pub made_dropped : {A B : Type 0} (m : Run A) (f : A → B) → drop (m >>= λ a. gives (f a)) ≡ drop m
unfolding and_then
made_dropped m f = bind_chain m (λ a. gives (f a)) (λ b. gives Undefined)

-- lists

pub turn_is : (ms : List Meaning) (c : Context) → drop (in_turn ms c) ≡ run_all ms c
unfolding in_turn run_all and_then
turn_is [] c = refl
turn_is (m ∷ []) c = refl
turn_is (m ∷ k ∷ ms) c = bind_chain (m c) (λ v. in_turn (k ∷ ms) c) (λ v. gives Undefined) ∙ bind_same (m c) (λ v. turn_is (k ∷ ms) c)

pub values_dropped : (ms : List Meaning) (c : Context) → drop (all_values ms c) ≡ run_all ms c
unfolding all_values run_all and_then
values_dropped [] c = refl
values_dropped (m ∷ ms) c = bind_chain (m c) _ (λ v. gives Undefined) ∙ bind_same (m c) (λ v. made_dropped (all_values ms c) (λ vs. v ▹ vs) ∙ values_dropped ms c)

-- what follows an expression of a template
text_dropped : (v : Value) (front : List ℕ) (rest : Run (List ℕ)) (h : Run Value) → Refines (drop rest) h → Refines (drop (in_core (to_text v) >>= λ t. rest >>= λ u. gives (front ++ t ++ u))) h
text_dropped v front rest h i = refines_assoc (in_core (to_text v)) _ _ (refines_drop (core_keeps (to_text v)) (λ t _. refines_trans (refines_path (made_dropped rest (λ u. front ++ t ++ u))) i))

pub template_dropped : (qs : List (List ℕ × Bool)) (ms : List Meaning) (c : Context) → Refines (drop (template_text qs ms c)) (run_all ms c)
unfolding template_text run_all and_then
template_dropped [] ms c = refines_leaves
template_dropped (q ∷ []) [] c = refines_same (gives Undefined)
template_dropped (q ∷ r ∷ qs) [] c = refines_leaves
template_dropped (q ∷ qs) (m ∷ ms) c = drop_then (m c) _ _ (λ v. text_dropped v q.0 _ _ (template_dropped qs ms c))

-- operators

pub operand_idle : (mark n : ℕ) (call : Caller) (op : UnaryOp) (ss : List Span) (a : Tree) (c : Context) → Refines (drop (eval mark n call (node (Unary op) ss (a ⊳ ε)) c)) (drop (eval mark n call a c))
unfolding eval act evals and_then
operand_idle mark n call Delete ss a c = refines_leaves
operand_idle mark n call op ss a c = then_idle (eval mark n call a c) (λ v. in_core (unary_value op v)) (λ v. idle_core (unary_value op v))

abbrev short : Option Bool → BinaryOp → Value → Run Value → Run Value
short o op v right = shortened o (gives v) right (right >>= λ b. compute op v b)

short_idle : (o : Option Bool) (op : BinaryOp) (v : Value) (right : Run Value) → Idle right → Idle (short o op v right)
unfolding and_then
short_idle None op v right h = refines_trans (then_idle right (λ b. compute op v b) (λ b. idle_core _)) h
short_idle (Some true) op v right h = refines_same (gives Undefined)
short_idle (Some false) op v right h = h

pub operate_idle : (op : BinaryOp) (v : Value) (right : Run Value) → Idle right → Idle (operate op v right)
unfolding operate
operate_idle op v right h = short_idle (short_circuits op v) op v right h

-- an operator that does not skip
pub never_skips : (op : BinaryOp) (v : Value) → may_skip op ≡ false → short_circuits op v ≡ None
never_skips LogicalOr v h = absurd (false≢true (sym h))
never_skips LogicalAnd v h = absurd (false≢true (sym h))
never_skips NullishCoalescing v h = absurd (false≢true (sym h))
never_skips _ v h = refl

pub operate_both : (op : BinaryOp) (v : Value) (right : Run Value) → may_skip op ≡ false → Refines (drop (operate op v right)) (drop right)
unfolding operate
operate_both op v right h = subst (λ o. Refines (drop (short o op v right)) (drop right)) (sym (never_skips op v h)) (then_idle right (λ b. compute op v b) (λ b. idle_core _))

some_short : (b : Bool) (op : BinaryOp) (v : Value) (m k : Run Value) → Refines (drop m) (drop k) → Refines (drop (short (Some b) op v m)) (drop (short (Some b) op v k))
some_short true op v m k h = refines_same _
some_short false op v m k h = h

pub operate_right : (op : BinaryOp) (v : Value) (m k : Run Value) → may_skip op ≡ true → Refines (drop m) (drop k) → Refines (drop (operate op v m)) (drop (operate op v k))
unfolding operate
operate_right LogicalOr v m k h r = some_short (truthy v) LogicalOr v m k r
operate_right LogicalAnd v m k h r = some_short (not (truthy v)) LogicalAnd v m k r
operate_right NullishCoalescing v m k h r = some_short (not (is_nullish v)) NullishCoalescing v m k r
operate_right _ v m k h r = absurd (false≢true h)

known_skips : (op : BinaryOp) (known b : Bool) (v : Value) → skips op known ≡ Some b → truthy v ≡ known → short_circuits op v ≡ Some b
known_skips LogicalOr known b v h e = ap Some e ∙ h
known_skips LogicalAnd known b v h e = ap (λ x. Some (not x)) e ∙ h
known_skips _ known b v h e = absurd (none-some b h)

pub operate_runs : (op : BinaryOp) (known : Bool) (v : Value) (right : Run Value) → skips op known ≡ Some false → truthy v ≡ known → operate op v right ≡ right
unfolding operate
operate_runs op known v right h e = ap (λ o. short o op v right) (known_skips op known false v h e)

pub operate_skipped : (op : BinaryOp) (known : Bool) (v : Value) (right : Run Value) → skips op known ≡ Some true → truthy v ≡ known → operate op v right ≡ gives v
unfolding operate
operate_skipped op known v right h e = ap (λ o. short o op v right) (known_skips op known true v h e)

nullish_typed : (p : Prim) → is_nullish_prim p ≡ is_nullish_type (prim_type p)
nullish_typed undefined = refl
nullish_typed null = refl
nullish_typed nan = refl
nullish_typed object = refl
nullish_typed (truth b) = refl
nullish_typed (num z) = refl
nullish_typed (text t) = refl

pub nullish_by_type : (v : Value) → is_nullish v ≡ is_nullish_type (value_type v)
nullish_by_type v = nullish_typed (prim v)

pub nullish_left : (v : Value) (right : Run Value) (b : Bool) → is_nullish v ≡ b → operate NullishCoalescing v right ≡ (if b then right else gives v)
unfolding operate
nullish_left v right true e = ap (λ b. short (Some (not b)) NullishCoalescing v right) e
nullish_left v right false e = ap (λ b. short (Some (not b)) NullishCoalescing v right) e

-- choices

pub if_idle : (b : Bool) (m k : Run Value) → Idle m → Idle k → Idle (if b then m else k)
if_idle true m k h i = h
if_idle false m k h i = i

pub if_both : (b : Bool) (m k x y : Run Value) → Refines (drop m) (drop x) → Refines (drop k) (drop y) → Refines (drop (if b then m else k)) (drop (if b then x else y))
if_both true m k x y h i = h
if_both false m k x y h i = i

-- `c ? a : b` where nothing is left of an arm
pub if_and : (b : Bool) (v : Value) (m k x : Run Value) → truthy v ≡ b → Refines (drop m) (drop x) → Idle k → Refines (drop (if b then m else k)) (drop (operate LogicalAnd v x))
unfolding operate and_then
if_and true v m k x e h i = subst (λ z. Refines (drop m) (drop (short (Some (not z)) LogicalAnd v x))) (sym e) h
if_and false v m k x e h i = subst (λ z. Refines (drop k) (drop (short (Some (not z)) LogicalAnd v x))) (sym e) i

pub if_or : (b : Bool) (v : Value) (m k x : Run Value) → truthy v ≡ b → Idle m → Refines (drop k) (drop x) → Refines (drop (if b then m else k)) (drop (operate LogicalOr v x))
unfolding operate and_then
if_or true v m k x e h i = subst (λ z. Refines (drop m) (drop (short (Some z) LogicalOr v x))) (sym e) h
if_or false v m k x e h i = subst (λ z. Refines (drop k) (drop (short (Some z) LogicalOr v x))) (sym e) i

-- a property, where what becomes of the fields does not matter

pub merged_left : (fs : Fields) (v : Value) (k : Fields → Run Fields) (h : Run Value) → ((gs : Fields) → Refines (drop (k gs)) h) → Refines (drop (merged fs v >>= k)) h
unfolding and_then
merged_left fs (Record gs) k h i = i (put_fields fs gs)
merged_left fs _ k h i = refines_leaves

pub merged_both : (fs gs : Fields) (v : Value) (k h : Fields → Run Fields) → ((ps qs : Fields) → Refines (drop (k ps)) (drop (h qs))) → Refines (drop (merged fs v >>= k)) (drop (merged gs v >>= h))
unfolding and_then
merged_both fs gs (Record rs) k h i = i (put_fields fs rs) (put_fields gs rs)
merged_both fs gs _ k h i = refines_leaves

-- small ends

pub given_idle : {A : Type 0} (v : A) {m : Run A} → m ≡ gives v → Idle m
unfolding and_then
given_idle v e = refines_path (ap drop e)

pub gone : {A : Type 0} {m k : Run A} → Refines m k → Refines (gives Undefined >>= λ v. m) k
unfolding and_then
gone h = h

pub left_dropped : (A : Type 0) {k : Run Value} → Refines (drop (leaves {A = A})) k
unfolding and_then
left_dropped A = refines_leaves
