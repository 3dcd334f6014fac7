-- Operators in front of a known operand, `+` of known sides, and conditions of known truth are exact.
use Rattle.std.proofs.Common.{◌≡◌, ℕ, ◌+ℤ◌, ◌++◌, ◌-◌, ◌^◌, Bool, true, false, ◌&&◌, ◌||◌, if◌then◌else◌, List, Option, Some, None, refl, sym, ap, ap₂, subst, ◌∙◌, ⊎_elim}
use Rattle.std.proofs.lemmas.Bool.{and_parts, or_cases, or_left, or_right, or_from, and_from, false≢true}
use Rattle.std.proofs.lemmas.Option.{none-some, same_Some}
use Rattle.swc_ast.specs.declared.UnaryOp.TheVariants.{Plus, Tilde, Void}
use Rattle.swc_ast.specs.declared.BinaryOp.TheVariants.{Add}
use Rattle.swc_ast.specs.declared.Span.{Span}
use Rattle.swc_ast.specs.Tree.{Cond, Unary, Binary, Tree, node, ε, ◌⊳◌}
use Rattle.swc_ast.specs.Value.{Value, Undefined, Num, Text, Run, and_then, Context}
use Rattle.swc_ast.specs.Meaning.{gives, in_core, Caller, in_turn, compute, operate, act, eval, evals}
use Rattle.swc_ast.specs.Operators.{prim, to_number, to_text, Numeric, Whole, number_value, both, arith, core_number, joined, is_text, plus, unary_value, on_number, as_i32, to_u32, binary_prim}
use Rattle.swc_ast.specs.Call.{call_at}
use Rattle.meaning_proofs.specs.Exact.{Exact}
use Rattle.swc_utils.specs.Pure.{pure}
use Rattle.swc_utils.specs.Known.{truth, number, text, joined_texts}
use Rattle.swc_utils.specs.Types.{type_of, is_text_type, plus_type, is_number_like}
use Rattle.swc_utils.specs.declared.answers.ValueType.{ValueType}
use Rattle.swc_utils.specs.declared.answers.ValueType.TheVariants.{Str as TextType, Num as NumberType}
use Rattle.swc_utils.specs.Holds.{Is, HasNumber, HasText, Yields}
use Rattle.swc_utils.proofs.Ends.{keeps_yields, yields_then, yields_gives, yields_map, any, yields_both}
use Rattle.swc_utils.proofs.Pure.{pure_is_still}
use Rattle.swc_utils.proofs.Known.{truth_holds, number_holds, text_holds, number_pure, text_pure, of_value_some}
use Rattle.swc_utils.proofs.Typed.{KnowsType, type_holds, text_known, no_text_known, no_text_number, side_known}
use Rattle.swc_utils.proofs.Refines.{refines_drop}
use Rattle.pass_rules.specs.Leaves.{number_tree, text_tree, void_tree}
use Rattle.expr_rules.specs.Arithmetic.{as_numeric, fold_texts, summed, is_number_type, fold_sum}
use Rattle.expr_rules.specs.Choices.{chosen_arm}
use Rattle.expr_proofs.proofs.Constant.{Gives}
use Rattle.pass_proofs.proofs.Values.{number_is}
use Rattle.pass_proofs.proofs.Refines.{refines_path, refines_where, refines_end_in}
use Rattle.expr_proofs.proofs.Rewrites.{number_tree_gives, number_back, if_gives, as_numeric_back}
use Rattle.pass_proofs.proofs.Truths.{truth_keeps}

-- a pure expression whose value is known is that value
pub pure_constant : (mark : ℕ) (t u : Tree) (w : Value) → pure mark t ≡ true → ((n : ℕ) (call : Caller) (c : Context) → Yields (Is w) (eval mark n call t c)) → Gives mark u w → Exact mark t u
pure_constant mark t u w p ht hu = record { by = λ n d c. refines_end_in w (keeps_yields (pure_is_still mark n d t p c) (ht n (call_at (eval mark n) d) c)) (hu n (call_at (eval mark n) d) c) }

pub number_gives : (mark : ℕ) (rs : List Span) (k : Numeric) → Gives mark (number_tree mark rs k) (number_value k)
number_gives mark rs k n call c s = number_tree_gives mark n call rs k c s

pub text_gives : (mark : ℕ) (rs : List Span) (t : List ℕ) → Gives mark (text_tree rs t) (Text t)
unfolding eval act evals
text_gives mark rs t n call c s = refl

pub void_gives : (mark : ℕ) (rs zs : List Span) → Gives mark (void_tree rs zs) Undefined
unfolding eval act evals and_then unary_value
void_gives mark rs zs n call c s = refl

-- `+a`
pub plus_exact : (mark : ℕ) (ss rs : List Span) (a : Tree) (k : Numeric) → number mark a ≡ Some k → Exact mark (node (Unary Plus) ss (a ⊳ ε)) (number_tree mark rs k)
unfolding eval act unary_value
plus_exact mark ss rs a k h = pure_constant mark (node (Unary Plus) ss (a ⊳ ε)) (number_tree mark rs k) (number_value k) (ap (λ p. p && true) (number_pure mark a k h))
    (λ n call c. yields_then (number_holds mark n call a k h _) (λ v e. subst (λ o. Yields (Is (number_value k)) (in_core (on_number (λ i. Some (number_value i)) o))) (sym e) (yields_gives _ refl)))
    (number_gives mark rs k)

-- a number of known value: `-a` among them
pub number_exact : (mark : ℕ) (rs : List Span) (t : Tree) (k : Numeric) → number mark t ≡ Some k → type_of mark t ≡ Some NumberType → Exact mark t (number_tree mark rs k)
number_exact mark rs t k h i = pure_constant mark t (number_tree mark rs k) (number_value k) (number_pure mark t k h)
    (λ n call c. yields_map (yields_both (number_holds mark n call t k h c) (type_holds mark n call t NumberType i c)) (λ v p. number_is v k p.0 p.1))
    (number_gives mark rs k)

-- `~a`
pub tilde_exact : (mark : ℕ) (ss rs : List Span) (a : Tree) (k : Numeric) → number mark a ≡ Some k → Exact mark (node (Unary Tilde) ss (a ⊳ ε)) (number_tree mark rs (Whole (as_i32 (2 ^ 32 - 1 - to_u32 k))))
unfolding eval act unary_value
tilde_exact mark ss rs a k h = pure_constant mark (node (Unary Tilde) ss (a ⊳ ε)) _ (Num (as_i32 (2 ^ 32 - 1 - to_u32 k))) (ap (λ p. p && true) (number_pure mark a k h))
    (λ n call c. yields_then (number_holds mark n call a k h _) (λ v e. subst (λ o. Yields (Is (Num (as_i32 (2 ^ 32 - 1 - to_u32 k)))) (in_core (on_number (λ i. Some (Num (as_i32 (2 ^ 32 - 1 - to_u32 i)))) o))) (sym e) (yields_gives _ refl)))
    (number_gives mark rs (Whole (as_i32 (2 ^ 32 - 1 - to_u32 k))))

-- `void a`
pub void_exact : (mark : ℕ) (ss rs zs : List Span) (a : Tree) → pure mark a ≡ true → Exact mark (node (Unary Void) ss (a ⊳ ε)) (void_tree rs zs)
unfolding eval act unary_value
void_exact mark ss rs zs a h = pure_constant mark (node (Unary Void) ss (a ⊳ ε)) (void_tree rs zs) Undefined (ap (λ p. p && true) h) (λ n call c. yields_then (any _) (λ v _. yields_gives Undefined refl)) (void_gives mark rs zs)

-- `+` of texts and of numbers

add_gives : (v w x : Value) (right : Run Value) → plus (prim v) (prim w) ≡ Some x → compute Add v w ≡ gives x
unfolding binary_prim
add_gives v w x right h = ap in_core h

is_text_sum : (a b : Option ValueType) (v w : Value) → KnowsType a v → KnowsType b w → (is_text_type a || is_text_type b) ≡ true → (is_text (prim v) || is_text (prim w)) ≡ true
is_text_sum a b v w ka kb h = ⊎_elim (λ e. or_left (is_text (prim v)) (is_text (prim w)) (text_known a (prim v) ka e)) (λ e. or_right (is_text (prim v)) (is_text (prim w)) (text_known b (prim w) kb e)) (or_cases _ _ h)

plus_texts : (v w : Value) (s t : List ℕ) → (is_text (prim v) || is_text (prim w)) ≡ true → HasText s v → HasText t w → plus (prim v) (prim w) ≡ Some (Text (s ++ t))
plus_texts v w s t h hs ht = ap (λ b. if b then both joined (to_text v) (to_text w) else both (arith (λ m n. core_number (m +ℤ n))) (to_number v) (to_number w)) h ∙ ap₂ (both joined) hs ht

knows : (mark n : ℕ) (call : Caller) (t : Tree) (c : Context) → Yields (KnowsType (type_of mark t)) (eval mark n call t c)
knows mark n call t c = side_known (type_of mark t) (eval mark n call t c) (λ τ h. type_holds mark n call t τ h c)

pub fold_texts_exact : (mark : ℕ) (ss rs : List Span) (a b : Tree) (r : List ℕ) → fold_texts mark a b ≡ Some r → Exact mark (node (Binary Add) ss (a ⊳ b ⊳ ε)) (text_tree rs r)
unfolding eval act operate
fold_texts_exact mark ss rs a b r h = let p = if_gives _ _ r h in known (text mark a) (text mark b) refl refl p.0 p.1
  where
    known : (i j : Option (List ℕ)) → text mark a ≡ i → text mark b ≡ j → (is_text_type (type_of mark a) || is_text_type (type_of mark b)) ≡ true → joined_texts i j ≡ Some r → Exact mark (node (Binary Add) ss (a ⊳ b ⊳ ε)) (text_tree rs r)
    known (Some s) (Some t) ea eb ty h' = pure_constant mark (node (Binary Add) ss (a ⊳ b ⊳ ε)) (text_tree rs r) (Text r) (and_from (pure mark a) _ (text_pure mark a s ea) (and_from (pure mark b) true (text_pure mark b t eb) refl))
        (λ n call c. yields_then (yields_both (text_holds mark n call a s ea _) (knows mark n call a _)) (λ v hv. yields_then (yields_both (text_holds mark n call b t eb _) (knows mark n call b _)) (λ w hw. subst (Yields (Is (Text r))) (sym (add_gives v w _ (gives v) (plus_texts v w s t (is_text_sum _ _ v w hv.1 hw.1 ty) hv.0 hw.0))) (yields_gives _ (ap Text (same_Some _ _ h'))))))
        (text_gives mark rs r)
    known (Some s) None ea eb ty h' = absurd (none-some r h')
    known None j ea eb ty h' = absurd (none-some r h')

number_sum : (v w : Value) (i j : Numeric) → HasNumber i v → HasNumber j w → (is_text (prim v) || is_text (prim w)) ≡ false → plus (prim v) (prim w) ≡ plus (prim (number_value i)) (prim (number_value j))
number_sum v w i j hi hj h =
    ap (λ b. if b then both joined (to_text v) (to_text w) else both (arith (λ m n. core_number (m +ℤ n))) (to_number v) (to_number w)) h
    ∙ ap₂ (both (arith (λ m n. core_number (m +ℤ n)))) (hi ∙ sym (number_back i)) (hj ∙ sym (number_back j))
    ∙ sym (ap (λ b. if b then both joined (to_text (number_value i)) (to_text (number_value j)) else both (arith (λ m n. core_number (m +ℤ n))) (to_number (number_value i)) (to_number (number_value j))) (or_from _ _ (no_text_number i) (no_text_number j)))

-- a sum of type number has no side of type text
sum_sides : (a b : Option ValueType) → is_number_type (plus_type a b) ≡ true → (is_number_like a ≡ true) × (is_number_like b ≡ true)
sum_sides a b h = and_parts _ _ (by_kind (is_text_type a || is_text_type b) (is_number_like a && is_number_like b) h)
  where
    by_kind : (t k : Bool) → is_number_type (if t then Some TextType else (if k then Some NumberType else None)) ≡ true → k ≡ true
    by_kind true k h' = absurd (false≢true h')
    by_kind false true h' = refl
    by_kind false false h' = absurd (false≢true h')

pub fold_sum_exact : (mark : ℕ) (ss rs : List Span) (a b : Tree) (r : Numeric) → fold_sum mark a b ≡ Some r → Exact mark (node (Binary Add) ss (a ⊳ b ⊳ ε)) (number_tree mark rs r)
unfolding eval act operate
fold_sum_exact mark ss rs a b r h = let p = if_gives _ _ r h in known (number mark a) (number mark b) refl refl (sum_sides (type_of mark a) (type_of mark b) p.0) p.1
  where
    known : (i j : Option Numeric) → number mark a ≡ i → number mark b ≡ j → (is_number_like (type_of mark a) ≡ true) × (is_number_like (type_of mark b) ≡ true) → summed i j ≡ Some r → Exact mark (node (Binary Add) ss (a ⊳ b ⊳ ε)) (number_tree mark rs r)
    known (Some i) (Some j) ea eb ty h' =
        let q = of_value_some as_numeric (plus (prim (number_value i)) (prim (number_value j))) r h' in
        pure_constant mark (node (Binary Add) ss (a ⊳ b ⊳ ε)) (number_tree mark rs r) (number_value r) (and_from (pure mark a) _ (number_pure mark a i ea) (and_from (pure mark b) true (number_pure mark b j eb) refl))
        (λ n call c. yields_then (yields_both (number_holds mark n call a i ea _) (knows mark n call a _)) (λ v hv. yields_then (yields_both (number_holds mark n call b j eb _) (knows mark n call b _)) (λ w hw.
        subst (Yields (Is (number_value r))) (sym (add_gives v w _ (gives v) (number_sum v w i j hv.0 hw.0 (or_from _ _ (no_text_known _ (prim v) hv.1 ty.0) (no_text_known _ (prim w) hw.1 ty.1)) ∙ q.1 ∙ ap Some (as_numeric_back q.0 r q.2)))) (yields_gives _ refl))))
        (number_gives mark rs r)
    known (Some i) None ea eb ty h' = absurd (none-some r h')
    known None j ea eb ty h' = absurd (none-some r h')

-- a condition of known truth

module _ (mark : ℕ) (ss rs : List Span) (t a b : Tree) (known : Bool) (h : truth mark t ≡ Some known) where
  arm_exact : (arm : Tree) (is_pure : Bool) → pure mark t ≡ is_pure → ((n : ℕ) (call : Caller) (c : Context) → (if known then eval mark n call a c else eval mark n call b c) ≡ eval mark n call arm c) → Exact mark (node Cond ss (t ⊳ a ⊳ b ⊳ ε)) (chosen_arm rs t arm is_pure)
  unfolding eval act in_turn
  arm_exact arm true p e = record { by = λ n d c. refines_drop (truth_keeps mark n d t known p h c) (λ v hv. refines_path (ap (λ x. if x then eval mark n (call_at (eval mark n) d) a c else eval mark n (call_at (eval mark n) d) b c) hv ∙ e n (call_at (eval mark n) d) c)) }
  arm_exact arm false p e = record { by = λ n d c. refines_where (truth_holds mark n (call_at (eval mark n) d) t known h c) (λ v hv. refines_path (ap (λ x. if x then eval mark n (call_at (eval mark n) d) a c else eval mark n (call_at (eval mark n) d) b c) hv ∙ e n (call_at (eval mark n) d) c)) }

pub choice_exact : (mark : ℕ) (ss rs : List Span) (t a b : Tree) (known : Bool) → truth mark t ≡ Some known → Exact mark (node Cond ss (t ⊳ a ⊳ b ⊳ ε)) (chosen_arm rs t (if known then a else b) (pure mark t))
choice_exact mark ss rs t a b true h = arm_exact mark ss rs t a b true h a (pure mark t) refl (λ n call c. refl)
choice_exact mark ss rs t a b false h = arm_exact mark ss rs t a b false h b (pure mark t) refl (λ n call c. refl)
