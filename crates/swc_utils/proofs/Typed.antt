-- The type that is known of an expression is that of each value that it gives.
use Rattle.std.proofs.Common.{◌≡◌, ℕ, zero, suc, ℤ, pos, negsuc, ◌+ℤ◌, ◌-ℤ◌, Bool, true, false, not, ◌&&◌, ◌||◌, if◌then◌else◌, List, [], ◌∷◌, Option, Some, None, refl, sym, ap, subst, ◌∙◌, ⊎_elim, IfSome}
use Rattle.std.proofs.lemmas.Bool.{and_parts, or_cases, or_left, or_right, or_from, false≢true}
use Rattle.std.proofs.lemmas.Option.{none-some, same_Some, cond_some}
use Rattle.swc_ast.specs.declared.UnaryOp.{UnaryOp}
use Rattle.swc_ast.specs.declared.UnaryOp.TheVariants.{Minus, Plus, Bang, Tilde, TypeOf, Void, Delete}
use Rattle.swc_ast.specs.declared.UpdateOp.{UpdateOp}
use Rattle.swc_ast.specs.declared.UpdateOp.TheVariants.{PlusPlus, MinusMinus}
use Rattle.swc_ast.specs.declared.BinaryOp.{BinaryOp}
use Rattle.swc_ast.specs.declared.BinaryOp.TheVariants.{EqEq, NotEq, EqEqEq, NotEqEq, Lt, LtEq, Gt, GtEq, LShift, RShift, ZeroFillRShift, Add, Sub, Mul, Div, Mod, Exp, BitOr, BitXor, BitAnd, LogicalOr, LogicalAnd, In, InstanceOf, NullishCoalescing}
use Rattle.swc_ast.specs.Tree.{Name, Read, Template, Array, Object, Cond, Seq, Fn, Arrow, Unary, TypeOfName, Binary, Assign, AssignDot, AssignIndex, Update, UpdateDot, UpdateIndex, Tree, node, Forest, ε, ◌⊳◌}
use Rattle.swc_ast.specs.Value.{Value, Undefined, NaN, Num, Text, Reads, Run, Context, Meaning}
use Rattle.swc_ast.specs.Meaning.{◌>>=◌, gives, leaves, in_core, ask, read, read_bound, checked_type, is_unresolved, Caller, shape1, shape2, in_turn, compute, operate, assign, operator_of, step_of, update, type_of_name, act, eval, evals}
use Rattle.swc_ast.specs.Operators.{Prim, prim, text as text_of, truthy, to_number, prim_number, prim_text, Numeric, NotANumber, Whole, number_value, unary_value, negated, on_number, both, arith, core_number, nonzero_sign, times, quotient, remainder, power, power_of, on_numbers, relational, compare_numbers, truth_value, untruth_value, plus, joined, is_text, binary_prim, units_before, int_before}
use Rattle.swc_utils.specs.declared.answers.ValueType.{ValueType}
use Rattle.swc_utils.specs.declared.answers.ValueType.TheVariants.{Undefined as UndefinedType, Null as NullType, Bool as TruthType, Num as NumberType, Str as TextType, Obj as ObjectType}
use Rattle.swc_utils.specs.Types.{prim_type, value_type, same_type, agreed, is_text_type, is_number_like, plus_type, is_numeric_op, binary_type, unary_type, assign_type, type_of, last_type}
use Rattle.swc_utils.proofs.Ends.{yields_then, yields_gives, yields_leaves, yields_in_core, yields_if, yields_map, yields_same, yields_shortened, any}
use Rattle.swc_utils.proofs.Known.{yields0, written, put_gives, put_at_gives, core_some, literal_holds}
use Rattle.swc_utils.specs.Holds.{Is, HasType, Yields}

-- the value has this type, where an operator gives one
pub record Typed (τ : ValueType) (o : Option Value) : Type 0 where
  pub by : IfSome o (HasType τ)

typed_none : {τ : ValueType} → Typed τ None
typed_none = record { by = tt }

typed_some : {τ : ValueType} (v : Value) → value_type v ≡ τ → Typed τ (Some v)
typed_some v h = record { by = h }

-- numbers

core_typed : (z : ℤ) → Typed NumberType (core_number z)
core_typed z = record { by = core_some (HasType NumberType) z refl }

signed_typed : (b : Bool) (k : ℕ) → Typed NumberType (nonzero_sign b k)
signed_typed true zero = typed_none
signed_typed true (suc k) = core_typed (negsuc k)
signed_typed false k = core_typed (pos k)

typed_if : {τ : ValueType} (b : Bool) (o : Option Value) → Typed τ o → Typed τ (if b then o else None)
typed_if true o h = h
typed_if false o h = typed_none

quotient_typed : (a b : ℤ) → Typed NumberType (quotient a b)
quotient_typed (pos zero) (pos zero) = typed_some NaN refl
quotient_typed (pos (suc k)) (pos zero) = typed_none
quotient_typed (negsuc k) (pos zero) = typed_none
quotient_typed a b = search (typed_if, signed_typed)

remainder_typed : (a b : ℤ) → Typed NumberType (remainder a b)
remainder_typed a (pos zero) = typed_some NaN refl
remainder_typed a (pos (suc k)) = search signed_typed
remainder_typed a (negsuc k) = search signed_typed

power_typed : (a b : ℤ) → Typed NumberType (power a b)
power_typed a (pos k) = search signed_typed
power_typed a (negsuc k) = search (typed_if, signed_typed)

power_of_typed : (a b : Numeric) → Typed NumberType (power_of a b)
power_of_typed a (Whole (pos zero)) = typed_some _ refl
power_of_typed a NotANumber = typed_some _ refl
power_of_typed NotANumber b = typed_some _ refl
power_of_typed (Whole a) (Whole b) = power_typed a b

arith_typed : (f : ℤ → ℤ → Option Value) → ((a b : ℤ) → Typed NumberType (f a b)) → (a b : Numeric) → Typed NumberType (arith f a b)
arith_typed f h (Whole a) (Whole b) = h a b
arith_typed f h (Whole a) NotANumber = typed_some NaN refl
arith_typed f h NotANumber b = typed_some NaN refl

both_typed : {A B : Type 0} {τ : ValueType} (f : A → B → Option Value) → ((a : A) (b : B) → Typed τ (f a b)) → (o : Option A) (p : Option B) → Typed τ (both f o p)
both_typed f h (Some a) (Some b) = h a b
both_typed f h (Some a) None = typed_none
both_typed f h None p = typed_none

numbers_typed : (f : Numeric → Numeric → Option Value) → ((a b : Numeric) → Typed NumberType (f a b)) → (p q : Prim) → Typed NumberType (on_numbers f p q)
numbers_typed f h p q = both_typed f h (prim_number p) (prim_number q)

pub numeric_typed : (op : BinaryOp) (p q : Prim) → is_numeric_op op ≡ true → Typed NumberType (binary_prim op p q)
unfolding binary_prim
numeric_typed Sub p q h = numbers_typed _ (arith_typed _ (λ a b. core_typed (a -ℤ b))) p q
numeric_typed Mul p q h = numbers_typed _ (arith_typed times (λ a b. search signed_typed)) p q
numeric_typed Div p q h = numbers_typed _ (arith_typed quotient quotient_typed) p q
numeric_typed Mod p q h = numbers_typed _ (arith_typed remainder remainder_typed) p q
numeric_typed Exp p q h = numbers_typed power_of power_of_typed p q
numeric_typed BitAnd p q h = numbers_typed _ (λ a b. typed_some _ refl) p q
numeric_typed BitOr p q h = numbers_typed _ (λ a b. typed_some _ refl) p q
numeric_typed BitXor p q h = numbers_typed _ (λ a b. typed_some _ refl) p q
numeric_typed LShift p q h = numbers_typed _ (λ a b. typed_some _ refl) p q
numeric_typed RShift p q h = numbers_typed _ (λ a b. typed_some _ refl) p q
numeric_typed ZeroFillRShift p q h = numbers_typed _ (λ a b. typed_some _ refl) p q
numeric_typed _ p q h = absurd (false≢true h)

-- comparisons

compare_typed : (f : ℤ → ℤ → Bool) (a b : Numeric) → Typed TruthType (compare_numbers f a b)
compare_typed f (Whole a) (Whole b) = typed_some _ refl
compare_typed f (Whole a) NotANumber = typed_some _ refl
compare_typed f NotANumber b = typed_some _ refl

relational_typed : (on_texts : List ℕ → List ℕ → Bool) (on_ints : ℤ → ℤ → Bool) (p q : Prim) → Typed TruthType (relational on_texts on_ints p q)
relational_typed on_texts on_ints (text_of a) (text_of b) = typed_some _ refl
relational_typed on_texts on_ints p q = both_typed (compare_numbers on_ints) (compare_typed on_ints) (prim_number p) (prim_number q)

truth_typed : (o : Option Bool) → Typed TruthType (truth_value o)
truth_typed None = typed_none
truth_typed (Some b) = typed_some _ refl

untruth_typed : (o : Option Bool) → Typed TruthType (untruth_value o)
untruth_typed None = typed_none
untruth_typed (Some b) = typed_some _ refl

-- the operators that are neither `+` nor numeric
test_typed : (op : BinaryOp) (p q : Prim) → is_numeric_op op ≡ false → (op ≡ Add → ⊥) → Typed TruthType (binary_prim op p q)
unfolding binary_prim
test_typed Lt p q h a = relational_typed units_before int_before p q
test_typed Gt p q h a = relational_typed (λ s t. units_before t s) (λ m n. int_before n m) p q
test_typed LtEq p q h a = relational_typed (λ s t. not (units_before t s)) (λ m n. not (int_before n m)) p q
test_typed GtEq p q h a = relational_typed (λ s t. not (units_before s t)) (λ m n. not (int_before m n)) p q
test_typed EqEqEq p q h a = truth_typed _
test_typed NotEqEq p q h a = untruth_typed _
test_typed EqEq p q h a = truth_typed _
test_typed NotEq p q h a = untruth_typed _
test_typed In p q h a = typed_none
test_typed InstanceOf p q h a = typed_none
test_typed LogicalOr p q h a = typed_none
test_typed LogicalAnd p q h a = typed_none
test_typed NullishCoalescing p q h a = typed_none
test_typed Add p q h a = absurd (a refl)
test_typed _ p q h a = absurd (false≢true (sym h))

-- `+`

abbrev pub KnowsPrim : Option ValueType → Prim → Type 0
KnowsPrim o p = IfSome o (λ τ. prim_type p ≡ τ)

-- the same of a value
abbrev pub KnowsType : Option ValueType → Value → Type 0
KnowsType o v = KnowsPrim o (prim v)

pub text_by_type : (p : Prim) → is_text p ≡ is_text_type (Some (prim_type p))
text_by_type (text_of t) = refl
text_by_type _ = refl

pub text_known : (o : Option ValueType) (p : Prim) → KnowsPrim o p → is_text_type o ≡ true → is_text p ≡ true
text_known None p k h = absurd (false≢true h)
text_known (Some τ) p k h = text_by_type p ∙ ap (λ x. is_text_type (Some x)) k ∙ h

pub no_text_known : (o : Option ValueType) (p : Prim) → KnowsPrim o p → is_number_like o ≡ true → is_text p ≡ false
no_text_known None p k h = absurd (false≢true h)
no_text_known (Some TextType) p k h = absurd (false≢true h)
no_text_known (Some τ) p k h = text_by_type p ∙ ap (λ x. is_text_type (Some x)) k

plus_text : (p q : Prim) → (is_text p || is_text q) ≡ true → Typed TextType (plus p q)
plus_text p q h = subst (λ b. Typed TextType (if b then both joined (prim_text p) (prim_text q) else both (arith (λ m n. core_number (m +ℤ n))) (prim_number p) (prim_number q))) (sym h) (both_typed joined (λ a b. typed_some _ refl) (prim_text p) (prim_text q))

plus_number : (p q : Prim) → (is_text p || is_text q) ≡ false → Typed NumberType (plus p q)
plus_number p q h = subst (λ b. Typed NumberType (if b then both joined (prim_text p) (prim_text q) else both (arith (λ m n. core_number (m +ℤ n))) (prim_number p) (prim_number q))) (sym h) (numbers_typed (arith (λ m n. core_number (m +ℤ n))) (arith_typed _ (λ a b. core_typed (a +ℤ b))) p q)

plus_typed : (a b : Option ValueType) (τ : ValueType) (p q : Prim) → plus_type a b ≡ Some τ → KnowsPrim a p → KnowsPrim b q → Typed τ (plus p q)
plus_typed a b τ p q h ka kb = by_sides (is_text_type a || is_text_type b) (is_number_like a && is_number_like b) refl refl h
  where
    by_sides : (t k : Bool) → (is_text_type a || is_text_type b) ≡ t → (is_number_like a && is_number_like b) ≡ k → (if t then Some TextType else (if k then Some NumberType else None)) ≡ Some τ → Typed τ (plus p q)
    by_sides true k et ek h' = subst (λ x. Typed x (plus p q)) (same_Some _ _ h') (plus_text p q (⊎_elim (λ e. or_left (is_text p) (is_text q) (text_known a p ka e)) (λ e. or_right (is_text p) (is_text q) (text_known b q kb e)) (or_cases _ _ et)))
    by_sides false true et ek h' = let parts = and_parts _ _ ek in subst (λ x. Typed x (plus p q)) (same_Some _ _ h') (plus_number p q (or_from (is_text p) (is_text q) (no_text_known a p ka parts.0) (no_text_known b q kb parts.1)))
    by_sides false false et ek h' = absurd (none-some τ h')

-- operators

yields_typed : {τ : ValueType} (o : Option Value) → Typed τ o → Yields (HasType τ) (in_core o)
yields_typed o h = yields_in_core o h.by

on_number_typed : {τ : ValueType} (f : Numeric → Option Value) → ((k : Numeric) → Typed τ (f k)) → (o : Option Numeric) → Typed τ (on_number f o)
on_number_typed f h None = typed_none
on_number_typed f h (Some k) = h k

negated_typed : (k : Numeric) → Typed NumberType (negated k)
negated_typed NotANumber = typed_some NaN refl
negated_typed (Whole (pos zero)) = typed_none
negated_typed (Whole (pos (suc i))) = core_typed (negsuc i)
negated_typed (Whole (negsuc i)) = core_typed (pos (suc i))

pub number_value_typed : (k : Numeric) → value_type (number_value k) ≡ NumberType
number_value_typed NotANumber = refl
number_value_typed (Whole z) = refl

unary_typed : (op : UnaryOp) (v : Value) → Typed (unary_type op) (unary_value op v)
unfolding unary_value
unary_typed Minus v = on_number_typed negated negated_typed (to_number v)
unary_typed Plus v = on_number_typed _ (λ k. typed_some (number_value k) (number_value_typed k)) (to_number v)
unary_typed Tilde v = on_number_typed _ (λ k. typed_some _ refl) (to_number v)
unary_typed Bang v = typed_some _ refl
unary_typed TypeOf v = typed_some _ refl
unary_typed Void v = typed_some _ refl
unary_typed Delete v = typed_none

pub same_type_equal : (a b : ValueType) → same_type a b ≡ true → a ≡ b
same_type_equal UndefinedType UndefinedType h = refl
same_type_equal NullType NullType h = refl
same_type_equal TruthType TruthType h = refl
same_type_equal NumberType NumberType h = refl
same_type_equal TextType TextType h = refl
same_type_equal ObjectType ObjectType h = refl
same_type_equal a b h = absurd (false≢true h)

-- two sides that agree both have the type
agreed_sides : (a b : Option ValueType) (τ : ValueType) → agreed a b ≡ Some τ → (a ≡ Some τ) × (b ≡ Some τ)
agreed_sides (Some a) (Some b) τ h = let p = cond_some (same_type a b) a τ h in (ap Some p.1, ap Some (sym (same_type_equal a b p.0) ∙ p.1))
agreed_sides (Some a) None τ h = absurd (none-some τ h)
agreed_sides None b τ h = absurd (none-some τ h)

-- what is known of a side
abbrev Side : Option ValueType → Run Value → Type 0
Side o m = (τ : ValueType) → o ≡ Some τ → Yields (HasType τ) m

pub side_known : (o : Option ValueType) (m : Run Value) → Side o m → Yields (KnowsType o) m
side_known None m h = any m
side_known (Some τ) m h = h τ refl

both_sides : {A B C : Type 0} {P : A → Type 0} {Q : B → Type 0} {R : C → Type 0} {m : Run A} {k : Run B} {f : A → B → Run C} → Yields P m → Yields Q k → ((a : A) (b : B) → P a → Q b → Yields R (f a b)) → Yields R (m >>= λ a. k >>= λ b. f a b)
both_sides h i j = yields_then h (λ a p. yields_then i (λ b q. j a b p q))

plain_op_typed : (op : BinaryOp) (τ : ValueType) (p q : Prim) → (op ≡ Add → ⊥) → Some (if is_numeric_op op then NumberType else TruthType) ≡ Some τ → Typed τ (binary_prim op p q)
plain_op_typed op τ p q no_plus h = by_kind (is_numeric_op op) refl h
  where
    by_kind : (b : Bool) → is_numeric_op op ≡ b → Some (if b then NumberType else TruthType) ≡ Some τ → Typed τ (binary_prim op p q)
    by_kind true e h' = subst (λ x. Typed x (binary_prim op p q)) (same_Some _ _ h') (numeric_typed op p q e)
    by_kind false e h' = subst (λ x. Typed x (binary_prim op p q)) (same_Some _ _ h') (test_typed op p q e no_plus)

plus_of : {τ : ValueType} (p q : Prim) → Typed τ (plus p q) → Typed τ (binary_prim Add p q)
unfolding binary_prim
plus_of p q h = h

binary_type_holds : (op : BinaryOp) (a b : Option ValueType) (τ : ValueType) (left right : Run Value) → binary_type op a b ≡ Some τ → Side a left → Side b right → Yields (HasType τ) (left >>= λ v. operate op v right)
unfolding operate
binary_type_holds Add a b τ left right h ha hb = both_sides (side_known a left ha) (side_known b right hb) (λ v w kv kw. yields_typed _ (plus_of (prim v) (prim w) (plus_typed a b τ (prim v) (prim w) h kv kw)))
binary_type_holds LogicalOr a b τ left right h ha hb = let p = agreed_sides a b τ h in yields_then (ha τ p.0) (λ v kv. yields_shortened _ (truthy v) (λ e. yields_gives v kv) (λ e. hb τ p.1))
binary_type_holds LogicalAnd a b τ left right h ha hb = let p = agreed_sides a b τ h in yields_then (ha τ p.0) (λ v kv. yields_shortened _ (not (truthy v)) (λ e. yields_gives v kv) (λ e. hb τ p.1))
binary_type_holds NullishCoalescing a b τ left right h ha hb = absurd (none-some τ h)
binary_type_holds op a b τ left right h ha hb = both_sides (any left) (any right) (λ v w _ _. yields_typed _ (plain_op_typed op τ (prim v) (prim w) (λ e. cc) h))

-- assignments and updates

-- a compound assignment by an operator that needs both sides
compound_typed : (op : BinaryOp) (τ : ValueType) (a : Value) (right : Run Value) (store : Value → Run Value) → Yields (λ b. Typed τ (binary_prim op (prim a) (prim b))) right → ((v : Value) → Yields (Is v) (store v)) → Yields (HasType τ) (right >>= λ b. compute op a b >>= store)
compound_typed op τ a right store hr hs = yields_then hr (λ b h. yields_same (yields_typed _ h) hs)

numeric_compound : (op : BinaryOp) (b : Option ValueType) (τ : ValueType) (a : Value) (right : Run Value) (store : Value → Run Value) → (if is_numeric_op op then Some NumberType else None) ≡ Some τ → ((v : Value) → Yields (Is v) (store v)) → Yields (HasType τ) (right >>= λ v. compute op a v >>= store)
numeric_compound op b τ a right store h hs = let p = cond_some (is_numeric_op op) NumberType τ h in compound_typed op τ a right store (yields_map (any right) (λ v _. subst (λ x. Typed x (binary_prim op (prim a) (prim v))) p.1 (numeric_typed op (prim a) (prim v) p.0))) hs

plus_right : (b : Option ValueType) (τ : ValueType) (p q : Prim) → (if is_text_type b then b else None) ≡ Some τ → KnowsPrim b q → Typed τ (binary_prim Add p q)
plus_right None τ p q h k = absurd (none-some τ h)
plus_right (Some TextType) τ p q h k = subst (λ x. Typed x (binary_prim Add p q)) (same_Some _ _ h) (plus_of p q (plus_text p q (or_right (is_text p) (is_text q) (text_by_type q ∙ ap (λ x. is_text_type (Some x)) k))))
plus_right (Some _) τ p q h k = absurd (none-some τ h)

assign_typed : (op : Option BinaryOp) (b : Option ValueType) (τ : ValueType) (old right : Run Value) (store : Value → Run Value) → assign_type op b ≡ Some τ → Side b right → ((v : Value) → Yields (Is v) (store v)) → Yields (HasType τ) (assign op old right store)
unfolding assign
assign_typed None b τ old right store h hb hs = yields_same (hb τ h) hs
assign_typed (Some Add) b τ old right store h hb hs = yields_then (any old) (λ a _. compound_typed Add τ a right store (yields_map (side_known b right hb) (λ v k. plus_right b τ (prim a) (prim v) h k)) hs)
assign_typed (Some LogicalOr) b τ old right store h hb hs = absurd (none-some τ h)
assign_typed (Some LogicalAnd) b τ old right store h hb hs = absurd (none-some τ h)
assign_typed (Some NullishCoalescing) b τ old right store h hb hs = absurd (none-some τ h)
assign_typed (Some op) b τ old right store h hb hs = yields_then (any old) (λ a _. numeric_compound op b τ a right store h hs)

pub no_text_number : (k : Numeric) → is_text (prim (number_value k)) ≡ false
no_text_number NotANumber = refl
no_text_number (Whole z) = refl

step_typed : (op : UpdateOp) (k : Numeric) → Typed NumberType (binary_prim (step_of op) (prim (number_value k)) (prim (Num (pos 1))))
step_typed PlusPlus k = plus_of _ _ (plus_number (prim (number_value k)) (prim (Num (pos 1))) (or_from (is_text (prim (number_value k))) false (no_text_number k) refl))
step_typed MinusMinus k = numeric_typed Sub (prim (number_value k)) (prim (Num (pos 1))) refl

answer_typed : (prefix : Bool) (new : Value) (k : Numeric) → value_type new ≡ NumberType → value_type (if prefix then new else number_value k) ≡ NumberType
answer_typed true new k h = h
answer_typed false new k h = number_value_typed k

update_typed : (op : UpdateOp) (prefix : Bool) (old : Run Value) (store : Value → Run Value) → Yields (HasType NumberType) (update op prefix old store)
unfolding update
update_typed op prefix old store = yields_then (any old) (λ a _. yields_then (any (in_core (to_number a))) (λ k _. yields_then (yields_typed _ (step_typed op k)) (λ new h. yields_then (any (store new)) (λ r _. yields_gives _ (answer_typed prefix new k h)))))

-- names

chosen_typed : (host m : Run Value) (u a b i g : Bool) (τ : ValueType) → (if u then (if a then Some UndefinedType else (if b then Some NumberType else (if i then Some NumberType else None))) else None) ≡ Some τ → Yields (HasType τ) (if u then (if a then gives Undefined else (if b then gives NaN else (if i || g then leaves else host))) else m)
chosen_typed host m false a b i g τ h = absurd (none-some τ h)
chosen_typed host m true true b i g τ h = yields_gives _ (same_Some _ _ h)
chosen_typed host m true false true i g τ h = yields_gives _ (same_Some _ _ h)
chosen_typed host m true false false true g τ h = yields_leaves
chosen_typed host m true false false false g τ h = absurd (none-some τ h)

checked_typed : (v : Value) → Yields (HasType TextType) (checked_type v)
checked_typed (Text t) = yields_if _ (yields_gives _ refl) yields_leaves
checked_typed _ = yields_leaves

name_typed : (mark : ℕ) (x : Name) (c : Context) → Yields (HasType TextType) (type_of_name mark x c)
unfolding type_of_name
name_typed mark x c = yields_if _ (yields_then (any _) (λ v _. checked_typed v)) (yields_then (any _) (λ v _. yields_typed _ (unary_typed TypeOf v)))

-- shapes

yields1 : {f : Meaning → Meaning} {P : Value → Type 0} (ms : List Meaning) → ((a : Meaning) (c : Context) → Yields P (f a c)) → (c : Context) → Yields P (shape1 f ms c)
yields1 (a ∷ []) h c = h a c
yields1 _ h c = yields_leaves

yields2 : {f : Meaning → Meaning → Meaning} {P : Value → Type 0} (ms : List Meaning) → ((a b : Meaning) (c : Context) → Yields P (f a b c)) → (c : Context) → Yields P (shape2 f ms c)
yields2 (a ∷ b ∷ []) h c = h a b c
yields2 _ h c = yields_leaves

-- expressions

module _ (mark n : ℕ) (call : Caller) where
  mutual
    unfolding eval act in_turn read

    pub type_holds : (t : Tree) (τ : ValueType) → type_of mark t ≡ Some τ → (c : Context) → Yields (HasType τ) (eval mark n call t c)
    type_holds (node (Read x) ss ts) τ h c = yields0 (evals mark n call ts) (λ d. chosen_typed (ask (Reads x.text)) (read_bound x (d.env x)) (is_unresolved mark x) _ _ _ _ τ h) _
    type_holds (node (Fn o) ss ts) τ h c = yields_gives _ (same_Some _ _ h)
    type_holds (node Arrow ss ts) τ h c = yields_gives _ (same_Some _ _ h)
    type_holds (node (Array ks) ss ts) τ h c = yields_then (any _) (λ vs _. yields_gives _ (same_Some _ _ h))
    type_holds (node Object ss ts) τ h c = yields_then (any _) (λ fs _. yields_gives _ (same_Some _ _ h))
    type_holds (node (Template qs) ss ts) τ h c = yields_then (any _) (λ t _. yields_gives _ (same_Some _ _ h))
    type_holds (node (TypeOfName x) ss ts) τ h c = subst (λ y. Yields (HasType y) (eval mark n call (node (TypeOfName x) ss ts) c)) (same_Some _ _ h) (yields0 (evals mark n call ts) (λ d. name_typed mark x d) _)
    type_holds (node (Update op prefix x) ss ts) τ h c = subst (λ y. Yields (HasType y) (eval mark n call (node (Update op prefix x) ss ts) c)) (same_Some _ _ h) (yields0 (evals mark n call ts) (λ d. update_typed op prefix _ _) _)
    type_holds (node (UpdateDot op prefix k) ss ts) τ h c = subst (λ y. Yields (HasType y) (eval mark n call (node (UpdateDot op prefix k) ss ts) c)) (same_Some _ _ h) (yields1 (evals mark n call ts) (λ o d. yields_then (any (o d)) (λ v _. update_typed op prefix _ _)) _)
    type_holds (node (UpdateIndex op prefix) ss ts) τ h c = subst (λ y. Yields (HasType y) (eval mark n call (node (UpdateIndex op prefix) ss ts) c)) (same_Some _ _ h) (yields2 (evals mark n call ts) (λ o k d. yields_then (any (o d)) (λ v _. yields_then (any (k d)) (λ w _. update_typed op prefix _ _))) _)
    type_holds (node (Assign op x) ss (r ⊳ ε)) τ h c = assign_typed (operator_of op) (type_of mark r) τ _ _ _ h (λ σ e. type_holds r σ e _) (λ v. written mark x v _)
    type_holds (node (AssignDot op k) ss (o ⊳ r ⊳ ε)) τ h c = yields_then (any _) (λ v _. assign_typed (operator_of op) (type_of mark r) τ _ _ _ h (λ σ e. type_holds r σ e _) (λ w. put_gives v k w))
    type_holds (node (AssignIndex op) ss (o ⊳ k ⊳ r ⊳ ε)) τ h c = yields_then (any _) (λ v _. yields_then (any _) (λ w _. assign_typed (operator_of op) (type_of mark r) τ _ _ _ h (λ σ e. type_holds r σ e _) (λ u. put_at_gives v w u)))
    type_holds (node (Unary Delete) ss (a ⊳ ε)) τ h c = yields_leaves
    type_holds (node (Unary op) ss (a ⊳ ε)) τ h c = yields_then (any _) (λ v _. yields_map (yields_typed _ (unary_typed op v)) (λ w e. e ∙ same_Some _ _ h))
    type_holds (node (Binary op) ss (a ⊳ b ⊳ ε)) τ h c = binary_type_holds op (type_of mark a) (type_of mark b) τ _ _ h (λ σ e. type_holds a σ e _) (λ σ e. type_holds b σ e _)
    type_holds (node Cond ss (t ⊳ a ⊳ b ⊳ ε)) τ h c = let p = agreed_sides (type_of mark a) (type_of mark b) τ h in yields_then (any _) (λ v _. yields_if (truthy v) (type_holds a τ p.0 _) (type_holds b τ p.1 _))
    type_holds (node Seq ss ts) τ h c = last_type_holds ts τ h _
    type_holds (node l ss ts) τ h c = yields_map (literal_holds mark n call (λ v. Some (value_type v)) l ss ts τ h c) (λ v e. same_Some _ _ e)

    last_type_holds : (ts : Forest) (τ : ValueType) → last_type mark ts ≡ Some τ → (c : Context) → Yields (HasType τ) (in_turn (evals mark n call ts) c)
    last_type_holds ε τ h c = absurd (none-some τ h)
    last_type_holds (t ⊳ ε) τ h c = type_holds t τ h c
    last_type_holds (t ⊳ u ⊳ ts) τ h c = yields_then (any _) (λ v _. last_type_holds (u ⊳ ts) τ h c)
