-- What is known of a core tree is a number of the core, and so is what an operator gives.
use Rattle.std.proofs.Common.{◌≡◌, ℕ, zero, suc, ℤ, pos, negsuc, ◌-◌, ◌%◌, ◌^◌, ◌<◌, ◌≤◌, ◌+ℤ◌, ◌-ℤ◌, Bool, true, false, not, ◌&&◌, ◌||◌, ◌==◌, if◌then◌else◌, List, [], ◌∷◌, Option, Some, None, refl, subst, arith, IfSome, nat_abs, nat_le, nat_lt, bytes_eq, codes, bit_and, bit_or, bit_xor}
use Rattle.std.proofs.lemmas.Bool.{false≢true, and_parts, le-leb, ltb-true}
use Rattle.std.proofs.lemmas.Option.{none-some, same_Some}
use Rattle.std.proofs.lemmas.Nat.{shr_le}
use Rattle.swc_ast.specs.declared.UnaryOp.{UnaryOp}
use Rattle.swc_ast.specs.declared.UnaryOp.TheVariants.{Minus, Bang, Void}
use Rattle.swc_ast.specs.declared.BinaryOp.{BinaryOp}
use Rattle.swc_ast.specs.declared.BinaryOp.TheVariants.{LShift, RShift, ZeroFillRShift, Sub, Mul, Div, Mod, Exp, BitOr, BitXor, BitAnd}
use Rattle.swc_ast.specs.Tree.{Label, NumLit, StrLit, BoolLit, NullLit, Read, Unary, Tree, node, ε, ◌⊳◌}
use Rattle.swc_ast.specs.Value.{Value, Undefined, Null, NaN, Truth, Num, Text}
use Rattle.swc_ast.specs.Operators.{Prim, prim, prim_number, Numeric, NotANumber, Whole, number_value, to_number, greatest, whole, negative_whole, of_digits, if_some, digits_value, numeric_text, text_to_number, trim_end, skip_spaces, starts_in_ascii, ends_in_ascii, is_digit, both, arith as on_whole, core_number, nonzero_sign, times, quotient, remainder, power, power_of, to_u32, as_i32, bits, shift_left, shift_right_zeros, halved, plus, joined, is_text, prim_text, binary_prim, binary_value}
use Rattle.swc_ast.specs.Core.{in_range, numbers_fit, good_scope, fits, fits_all}
use Rattle.swc_utils.specs.Known.{literal, unary_known, minus, unary_number, number, truth, of_value}
use Rattle.swc_utils.specs.Globals.{constant}
use Rattle.swc_utils.specs.Pure.{pure}
use Rattle.swc_utils.specs.Types.{is_numeric_op}
use Rattle.swc_utils.proofs.Known.{of_value_some}
use Rattle.expr_rules.specs.Arithmetic.{as_numeric, computed, divides, is_zero, summed}
use Rattle.pass_proofs.proofs.Leftovers.{Fits}
use Rattle.expr_proofs.proofs.Regroup.{u32_below}
use Rattle.expr_proofs.proofs.Rewrites.{if_gives}

abbrev ValueFits : Value → Type 0
ValueFits (Num z) = in_range z ≡ true
ValueFits v = Unit {0}

record Ranged (o : Option Value) : Type 0 where
  by : IfSome o ValueFits

record Counted (o : Option Numeric) : Type 0 where
  by : IfSome o Fits

-- texts

counted_if : (b : Bool) (k : Numeric) → (b ≡ true → Fits k) → Counted (if b then Some k else None)
counted_if true k h = record { by = h refl }
counted_if false k h = record { by = tt }

counted_both : (b : Bool) (o p : Option Numeric) → Counted o → Counted p → Counted (if b then o else p)
counted_both true o p h i = h
counted_both false o p h i = i

whole_counted : (z : ℤ) → Counted (whole z)
whole_counted z = counted_if (nat_le (nat_abs z) greatest) (Whole z) (λ e. e)

negative_counted : (n : ℕ) → Counted (negative_whole n)
negative_counted zero = record { by = tt }
negative_counted (suc n) = whole_counted (negsuc n)

some_counted : (o : Option ℕ) (f : ℕ → Option Numeric) → ((n : ℕ) → Counted (f n)) → Counted (if_some o f)
some_counted None f h = record { by = tt }
some_counted (Some n) f h = h n

digits_counted : (f : ℕ → Option Numeric) (cs : List ℕ) → ((n : ℕ) → Counted (f n)) → Counted (of_digits f cs)
digits_counted f [] h = record { by = tt }
digits_counted f (c ∷ cs) h = some_counted (digits_value 0 (c ∷ cs)) f h

none_counted : Counted None
none_counted = record { by = tt }

nan_counted : Counted (Some NotANumber)
nan_counted = record { by = tt }

numeric_counted : (cs : List ℕ) → Counted (numeric_text cs)
numeric_counted [] = record { by = le-leb 0 greatest (omega arith) }
numeric_counted (c ∷ cs) =
    counted_both (c == 45) _ _ (digits_counted negative_whole cs negative_counted)
    (counted_both (c == 43) _ _ (digits_counted (λ n. whole (pos n)) cs (λ n. whole_counted (pos n)))
    (counted_both (is_digit c) _ _ (digits_counted (λ n. whole (pos n)) (c ∷ cs) (λ n. whole_counted (pos n)))
    (counted_both ((c == 46) || (c == 73)) None (Some NotANumber) none_counted nan_counted)))

text_counted : (t : List ℕ) → Counted (text_to_number t)
text_counted t = let bare = trim_end (skip_spaces t) in counted_both (starts_in_ascii bare && ends_in_ascii bare) (numeric_text bare) None (numeric_counted bare) none_counted

-- trees

small : (z : ℤ) → nat_abs z ≤ 1 → in_range z ≡ true
small z h = le-leb (nat_abs z) greatest (omega arith)

value_counted : (v : Value) → ValueFits v → Counted (to_number v)
value_counted (Num z) h = record { by = h }
value_counted (Text t) h = text_counted t
value_counted Null h = record { by = small (pos 0) (omega arith) }
value_counted (Truth true) h = record { by = small (pos 1) (omega arith) }
value_counted (Truth false) h = record { by = small (pos 0) (omega arith) }
value_counted Undefined h = nan_counted
value_counted NaN h = nan_counted
value_counted _ h = none_counted

known_fits : (o : Option Numeric) (k : Numeric) → Counted o → o ≡ Some k → Fits k
known_fits None k c h = absurd (none-some k h)
known_fits (Some i) k c h = subst Fits (same_Some _ _ h) c.by

minus_fits : (k i : Numeric) → Fits k → minus (Some k) ≡ Some i → Fits i
minus_fits NotANumber i f h = subst Fits (same_Some _ _ h) tt
minus_fits (Whole (pos zero)) i f h = absurd (none-some i h)
minus_fits (Whole (pos (suc n))) i f h = known_fits (whole (negsuc n)) i (whole_counted (negsuc n)) h
minus_fits (Whole (negsuc n)) i f h = known_fits (whole (pos (suc n))) i (whole_counted (pos (suc n))) h

constant_fits : (x : List ℕ) (v : Value) → constant x ≡ Some v → ValueFits v
constant_fits x v h = by_text (bytes_eq x (codes "undefined")) (bytes_eq x (codes "NaN")) h
  where
    by_text : (a b : Bool) → (if a then Some Undefined else (if b then Some NaN else None)) ≡ Some v → ValueFits v
    by_text true b e = subst ValueFits (same_Some _ _ e) tt
    by_text false true e = subst ValueFits (same_Some _ _ e) tt
    by_text false false e = absurd (none-some v e)

name_fits : (u : Bool) (x : List ℕ) (v : Value) → (if u then constant x else None) ≡ Some v → ValueFits v
name_fits true x v h = constant_fits x v h
name_fits false x v h = absurd (none-some v h)

literal_fits : (mark : ℕ) (l : Label) (v : Value) → numbers_fit l ≡ true → literal mark l ≡ Some v → ValueFits v
literal_fits mark (NumLit z) v f h = subst ValueFits (same_Some _ _ h) f
literal_fits mark (StrLit t) v f h = subst ValueFits (same_Some _ _ h) tt
literal_fits mark (BoolLit b) v f h = subst ValueFits (same_Some _ _ h) tt
literal_fits mark NullLit v f h = subst ValueFits (same_Some _ _ h) tt
literal_fits mark (Read x) v f h = name_fits _ x.text v h
literal_fits mark _ v f h = absurd (none-some v h)

unary_known_fits : (op : UnaryOp) (is_pure : Bool) (t : Option Bool) (v : Value) → unary_known op is_pure t ≡ Some v → ValueFits v
unary_known_fits Void true t v h = subst ValueFits (same_Some _ _ h) tt
unary_known_fits Bang true (Some b) v h = subst ValueFits (same_Some _ _ h) tt
unary_known_fits _ _ _ v h = absurd (none-some v h)

unary_fits : (op : UnaryOp) (is_pure : Bool) (t : Option Bool) (n : Option Numeric) (k : Numeric) → ((i : Numeric) → n ≡ Some i → Fits i) → unary_number op n (unary_known op is_pure t) ≡ Some k → Fits k
unary_fits Minus is_pure t None k f h = absurd (none-some k h)
unary_fits Minus is_pure t (Some i) k f h = minus_fits i k (f i refl) h
unary_fits op is_pure t n k f h = let w = of_value_some to_number (unary_known op is_pure t) k h in known_fits (to_number w.0) k (value_counted w.0 (unary_known_fits op is_pure t w.0 w.1)) w.2

-- the known number of a core tree
pub number_fits : (mark : ℕ) (t : Tree) (k : Numeric) → fits t ≡ true → number mark t ≡ Some k → Fits k
number_fits mark (node (Unary op) ss (a ⊳ ε)) k f h =
    let p = and_parts (fits a) true f in
    unary_fits op (pure mark a) (truth mark a) (number mark a) k (λ i e. number_fits mark a i p.0 e) h
number_fits mark (node l ss ts) k f h =
    let p = and_parts (numbers_fit l) (good_scope l ts && fits_all ts) f in
    let w = of_value_some to_number (literal mark l) k h in known_fits (to_number w.0) k (value_counted w.0 (literal_fits mark l w.0 p.0 w.1)) w.2

-- operators

ranged_none : Ranged None
ranged_none = record { by = tt }

ranged_nan : Ranged (Some NaN)
ranged_nan = record { by = tt }

core_ranged : (z : ℤ) → Ranged (core_number z)
core_ranged z = by_size (nat_le (nat_abs z) greatest) refl
  where
    by_size : (b : Bool) → nat_le (nat_abs z) greatest ≡ b → Ranged (if b then Some (Num z) else None)
    by_size true e = record { by = e }
    by_size false e = ranged_none

sign_ranged : (s : Bool) (n : ℕ) → Ranged (nonzero_sign s n)
sign_ranged true zero = ranged_none
sign_ranged true (suc n) = core_ranged (negsuc n)
sign_ranged false n = core_ranged (pos n)

ranged_if : (b : Bool) (o : Option Value) → Ranged o → Ranged (if b then o else None)
ranged_if true o h = h
ranged_if false o h = ranged_none

quotient_ranged : (a b : ℤ) → Ranged (quotient a b)
quotient_ranged (pos zero) (pos zero) = ranged_nan
quotient_ranged (pos (suc k)) (pos zero) = ranged_none
quotient_ranged (negsuc k) (pos zero) = ranged_none
quotient_ranged a b = search (ranged_if, sign_ranged)

remainder_ranged : (a b : ℤ) → Ranged (remainder a b)
remainder_ranged a (pos zero) = ranged_nan
remainder_ranged a (pos (suc k)) = search sign_ranged
remainder_ranged a (negsuc k) = search sign_ranged

power_ranged : (a b : ℤ) → Ranged (power a b)
power_ranged a (pos k) = search sign_ranged
power_ranged a (negsuc k) = search (ranged_if, sign_ranged)

power_of_ranged : (a b : Numeric) → Ranged (power_of a b)
power_of_ranged a (Whole (pos zero)) = record { by = small (pos 1) (omega arith) }
power_of_ranged a NotANumber = ranged_nan
power_of_ranged NotANumber b = ranged_nan
power_of_ranged (Whole a) (Whole b) = power_ranged a b

whole_ranged : (f : ℤ → ℤ → Option Value) → ((a b : ℤ) → Ranged (f a b)) → (a b : Numeric) → Ranged (on_whole f a b)
whole_ranged f h (Whole a) (Whole b) = h a b
whole_ranged f h (Whole a) NotANumber = ranged_nan
whole_ranged f h NotANumber b = ranged_nan

both_ranged : {A B : Type 0} (f : A → B → Option Value) → ((a : A) (b : B) → Ranged (f a b)) → (o : Option A) (p : Option B) → Ranged (both f o p)
both_ranged f h (Some a) (Some b) = h a b
both_ranged f h (Some a) None = ranged_none
both_ranged f h None p = ranged_none

i32_fits : (n : ℕ) → nat_abs (as_i32 n) ≤ greatest
i32_fits n = by_sign (nat_lt n (2 ^ 31)) refl
  where
    by_sign : (b : Bool) → nat_lt n (2 ^ 31) ≡ b → nat_abs (if b then pos n else negsuc (2 ^ 32 - 1 - n)) ≤ greatest
    by_sign true e = let h : n < 2 ^ 31 = ltb-true n (2 ^ 31) e in omega arith
    by_sign false e = omega arith

pub i32_in_range : (n : ℕ) → in_range (as_i32 n) ≡ true
i32_in_range n = le-leb (nat_abs (as_i32 n)) greatest (i32_fits n)

halved_fits : (z : ℤ) (k : ℕ) → nat_abs z ≤ greatest → nat_abs (halved z k) ≤ greatest
halved_fits (pos n) k h = let i = shr_le n k in omega (arith, i, h)
halved_fits (negsuc n) k h = let i = shr_le n k in omega (arith, i, h)

zeros_fit : (a b : Numeric) → nat_abs (shift_right_zeros (to_u32 a) (to_u32 b)) ≤ greatest
zeros_fit a b = let i = u32_below a in let j = shr_le (to_u32 a) (to_u32 b % 32) in omega (arith, i, j)

bits_ranged : (f : ℕ → ℕ → ℕ) (a b : Numeric) → Ranged (bits f a b)
bits_ranged f a b = record { by = i32_in_range (f (to_u32 a) (to_u32 b)) }

numeric_ranged : (op : BinaryOp) (p q : Prim) → is_numeric_op op ≡ true → Ranged (binary_prim op p q)
unfolding binary_prim
numeric_ranged Sub p q h = both_ranged _ (whole_ranged _ (λ a b. core_ranged (a -ℤ b))) (prim_number p) (prim_number q)
numeric_ranged Mul p q h = both_ranged _ (whole_ranged times (λ a b. search sign_ranged)) (prim_number p) (prim_number q)
numeric_ranged Div p q h = both_ranged _ (whole_ranged quotient quotient_ranged) (prim_number p) (prim_number q)
numeric_ranged Mod p q h = both_ranged _ (whole_ranged remainder remainder_ranged) (prim_number p) (prim_number q)
numeric_ranged Exp p q h = both_ranged power_of power_of_ranged (prim_number p) (prim_number q)
numeric_ranged BitAnd p q h = both_ranged (bits bit_and) (bits_ranged bit_and) (prim_number p) (prim_number q)
numeric_ranged BitOr p q h = both_ranged (bits bit_or) (bits_ranged bit_or) (prim_number p) (prim_number q)
numeric_ranged BitXor p q h = both_ranged (bits bit_xor) (bits_ranged bit_xor) (prim_number p) (prim_number q)
numeric_ranged LShift p q h = both_ranged (bits shift_left) (bits_ranged shift_left) (prim_number p) (prim_number q)
numeric_ranged RShift p q h = both_ranged _ (λ a b. record { by = le-leb _ greatest (halved_fits (as_i32 (to_u32 a)) _ (i32_fits (to_u32 a))) }) (prim_number p) (prim_number q)
numeric_ranged ZeroFillRShift p q h = both_ranged _ (λ a b. record { by = le-leb _ greatest (zeros_fit a b) }) (prim_number p) (prim_number q)
numeric_ranged _ p q h = absurd (false≢true h)

-- the number that a value is
numeric_is : (v : Value) (k : Numeric) → ValueFits v → as_numeric v ≡ Some k → Fits k
numeric_is NaN k f h = subst Fits (same_Some _ _ h) tt
numeric_is (Num z) k f h = subst Fits (same_Some _ _ h) f
numeric_is _ k f h = absurd (none-some k h)

ranged_is : (o : Option Value) (v : Value) → Ranged o → o ≡ Some v → ValueFits v
ranged_is None v r h = absurd (none-some v h)
ranged_is (Some w) v r h = subst ValueFits (same_Some _ _ h) r.by

pub computed_fits : (op : BinaryOp) (i j : Option Numeric) (k : Numeric) → computed op i j ≡ Some k → Fits k
computed_fits op (Some a) (Some b) k h =
    let p = if_gives (is_numeric_op op && not (divides op && is_zero b)) (of_value as_numeric (binary_value op (number_value a) (number_value b))) k h in
    let w = of_value_some as_numeric (binary_value op (number_value a) (number_value b)) k p.1 in
    numeric_is w.0 k (ranged_is _ w.0 (numeric_ranged op (prim (number_value a)) (prim (number_value b)) (and_parts (is_numeric_op op) _ p.0).0) w.1) w.2
computed_fits op (Some a) None k h = absurd (none-some k h)
computed_fits op None j k h = absurd (none-some k h)

plus_ranged : (p q : Prim) → Ranged (plus p q)
plus_ranged p q = by_kind (is_text p || is_text q)
  where
    by_kind : (b : Bool) → Ranged (if b then both joined (prim_text p) (prim_text q) else both (on_whole (λ m n. core_number (m +ℤ n))) (prim_number p) (prim_number q))
    by_kind true = both_ranged joined (λ a b. record { by = tt }) (prim_text p) (prim_text q)
    by_kind false = both_ranged _ (whole_ranged _ (λ a b. core_ranged (a +ℤ b))) (prim_number p) (prim_number q)

pub summed_fits : (i j : Option Numeric) (k : Numeric) → summed i j ≡ Some k → Fits k
summed_fits (Some a) (Some b) k h =
    let w = of_value_some as_numeric (plus (prim (number_value a)) (prim (number_value b))) k h in
    numeric_is w.0 k (ranged_is _ w.0 (plus_ranged (prim (number_value a)) (prim (number_value b))) w.1) w.2
summed_fits (Some a) None k h = absurd (none-some k h)
summed_fits None j k h = absurd (none-some k h)
