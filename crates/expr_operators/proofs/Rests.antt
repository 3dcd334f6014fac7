-- Operators on literals that no fold takes tell nothing.
use Rattle.std.proofs.Common.{◌≡◌, ℕ, zero, suc, ◌*◌, ◌/◌, ◌%◌, ◌^◌, ℤ, pos, negsuc, ◌+ℤ◌, ◌-ℤ◌, Bool, true, false, not, ◌&&◌, ◌||◌, ◌==◌, nat_abs, nat_le, if◌then◌else◌, List, Option, Some, None, refl, sym, ap, ◌∙◌}
use Rattle.std.proofs.lemmas.Bool.{or_from}
use Rattle.swc_ast.specs.Tree as tree
use Rattle.swc_ast.specs.Tree.{Tree, node, Forest}
use Rattle.swc_ast.specs.Operators.{Numeric, NotANumber, Whole, greatest, core_number, nonzero_sign, is_negative, is_odd, xor, quotient, remainder, power, power_of, number_value, binary_prim, binary_value}
use Rattle.swc_ast.specs.Redex.{is_number, folds_numbers, divides_by_zero, admitted, number_of, number_redex, binary_redex}
use Rattle.swc_ast.specs.Value.{Value, Num}
use Rattle.swc_ast.specs.declared.Span.{Span}
use Rattle.swc_ast.specs.declared.BinaryOp.{BinaryOp}
use Rattle.swc_ast.specs.declared.BinaryOp.TheVariants as op
use Rattle.swc_utils.specs.Known.{of_value}
use Rattle.swc_utils.specs.Types.{is_numeric_op}
use Rattle.expr_rules.specs.Arithmetic.{admits, as_numeric, divides, fold_numbers, fold_sum, fold_texts, is_zero}
use Rattle.expr_rules.specs.Comparisons.{is_comparison}
use Rattle.expr_rules.specs.Equality.{equal_known, is_equality}
use Rattle.expr_operators.specs.Literals.{literal_number}

-- a value that is a number or NaN, or none
data Counts : Option Value → Type 0 where
  leaves : Counts None
  counts : (k : Numeric) → Counts (Some (number_value k))

core_counts : (z : ℤ) → Counts (core_number z)
core_counts z = by_size (nat_le (nat_abs z) greatest)
  where
    by_size : (c : Bool) → Counts (if c then Some (Num z) else None)
    by_size true = counts (Whole z)
    by_size false = leaves

sign_counts : (s : Bool) (n : ℕ) → Counts (nonzero_sign s n)
sign_counts true zero = leaves
sign_counts true (suc n) = core_counts (negsuc n)
sign_counts false n = core_counts (pos n)

if_counts : (c : Bool) (o : Option Value) → Counts o → Counts (if c then o else None)
if_counts true o h = h
if_counts false o h = leaves

quotient_counts : (x y : ℤ) → Counts (quotient x y)
quotient_counts (pos zero) (pos zero) = counts NotANumber
quotient_counts (pos (suc k)) (pos zero) = leaves
quotient_counts (negsuc k) (pos zero) = leaves
quotient_counts x y = if_counts (nat_abs x % nat_abs y == 0) _ (sign_counts (xor (is_negative x) (is_negative y)) (nat_abs x / nat_abs y))

remainder_counts : (x y : ℤ) → Counts (remainder x y)
remainder_counts x (pos zero) = counts NotANumber
remainder_counts x y = sign_counts (is_negative x) (nat_abs x % nat_abs y)

power_counts : (x y : ℤ) → Counts (power x y)
power_counts x (pos n) = sign_counts (is_negative x && is_odd n) (nat_abs x ^ n)
power_counts x (negsuc n) = if_counts (nat_abs x == 1) _ (sign_counts (is_negative x && is_odd (suc n)) 1)

power_of_counts : (x y : ℤ) → Counts (power_of (Whole x) (Whole y))
power_of_counts x (pos zero) = counts (Whole (pos 1))
power_of_counts x (pos (suc n)) = power_counts x (pos (suc n))
power_of_counts x (negsuc n) = power_counts x (negsuc n)

op_counts : (o : BinaryOp) (x y : ℤ) → is_numeric_op o ≡ true → Counts (binary_value o (Num x) (Num y))
unfolding binary_prim
op_counts op.Sub x y h = core_counts (x -ℤ y)
op_counts op.Mul x y h = sign_counts (xor (is_negative x) (is_negative y)) (nat_abs x * nat_abs y)
op_counts op.Div x y h = quotient_counts x y
op_counts op.Mod x y h = remainder_counts x y
op_counts op.Exp x y h = power_of_counts x y
op_counts op.BitAnd x y h = counts (Whole _)
op_counts op.BitOr x y h = counts (Whole _)
op_counts op.BitXor x y h = counts (Whole _)
op_counts op.LShift x y h = counts (Whole _)
op_counts op.RShift x y h = counts (Whole _)
op_counts op.ZeroFillRShift x y h = counts (Whole _)
op_counts o x y h = cc

and_last : (a b : Bool) → b ≡ false → (a && b) ≡ false
and_last true b h = h
and_last false b h = refl

and_within : (a b c : Bool) → (b && c) ≡ false → ((a && b) && c) ≡ false
and_within true b c h = h
and_within false b c h = refl

as_number : (k : Numeric) → as_numeric (number_value k) ≡ Some k
as_number NotANumber = refl
as_number (Whole z) = refl

zero_divisor : (o : BinaryOp) (y : ℤ) (ss : List Span) (cs : Forest) → divides_by_zero o (node (tree.NumLit y) ss cs) ≡ (divides o && is_zero (Whole y))
zero_divisor op.Div (pos zero) ss cs = refl
zero_divisor op.Div (pos (suc k)) ss cs = refl
zero_divisor op.Div (negsuc k) ss cs = refl
zero_divisor op.Mod (pos zero) ss cs = refl
zero_divisor op.Mod (pos (suc k)) ss cs = refl
zero_divisor op.Mod (negsuc k) ss cs = refl
zero_divisor o y ss cs = refl

-- of results that aren't admitted
module _ (o : BinaryOp) (a b : Tree) where
  dead : (d : Bool) (v : Option Value) → Counts v → ((r : Numeric) → (if not d then of_value as_numeric v else None) ≡ Some r → admits o a b r ≡ false) → (not d && admitted o a b v) ≡ false
  dead d _ leaves f = and_last (not d) false refl
  dead true _ (counts k) f = refl
  dead false _ (counts k) f = f k (as_number k)

module _ (mark : ℕ) (o : BinaryOp) (x y : ℤ) (ss rs : List Span) (cs ds : Forest) where
  literals_rest : is_numeric_op o ≡ true → ((r : Numeric) → fold_numbers mark o (node (tree.NumLit x) ss cs) (node (tree.NumLit y) rs ds) ≡ Some r → admits o (node (tree.NumLit x) ss cs) (node (tree.NumLit y) rs ds) r ≡ false) → number_redex o (node (tree.NumLit x) ss cs) (node (tree.NumLit y) rs ds) ≡ false
  literals_rest n f =
      let a = node (tree.NumLit x) ss cs in
      let b = node (tree.NumLit y) rs ds in
      let v = binary_value o (Num x) (Num y) in
      let z = divides o && is_zero (Whole y) in
      and_within (folds_numbers o) (not (divides_by_zero o b)) (admitted o a b v)
      (ap (λ d. not d && admitted o a b v) (zero_divisor o y rs ds)
      ∙ dead o a b z v (op_counts o x y n) (λ r h. f r (ap (λ c. if c && not z then of_value as_numeric v else None) n ∙ h)))

-- two numbers whose result is none, or too long
numbers_rest : (mark : ℕ) (o : BinaryOp) (a b : Tree) → is_numeric_op o ≡ true → ((r : Numeric) → fold_numbers mark o a b ≡ Some r → admits o a b r ≡ false) → number_redex o a b ≡ false
numbers_rest mark o (node (tree.NumLit x) ss cs) (node (tree.NumLit y) rs ds) n f = literals_rest mark o x y ss rs cs ds n f
numbers_rest mark o (node (tree.NumLit x) ss cs) (node l rs ds) n f = refl
numbers_rest mark o (node l ss cs) b n f = refl

pub none_rests : (mark : ℕ) (o : BinaryOp) (a b : Tree) → is_numeric_op o ≡ true → fold_numbers mark o a b ≡ None → number_redex o a b ≡ false
none_rests mark o a b n h = numbers_rest mark o a b n (λ r e. cc (h, e))

pub long_rests : (mark : ℕ) (o : BinaryOp) (a b : Tree) (k : Numeric) → is_numeric_op o ≡ true → fold_numbers mark o a b ≡ Some k → admits o a b k ≡ false → number_redex o a b ≡ false
long_rests mark o a b k n h m = numbers_rest mark o a b n (λ r e. ap (admits o a b) (same (sym e ∙ h)) ∙ m)
  where
    same : {r : Numeric} → Some r ≡ Some k → r ≡ k
    same e = cc

-- all that a class of operators asks of its sides

no_numbers : (o : BinaryOp) (a b : Tree) → (is_number a && is_number b) ≡ false → number_redex o a b ≡ false
no_numbers o a b h = ap (λ c. ((c && folds_numbers o) && not (divides_by_zero o b)) && admitted o a b (binary_value o (Num (number_of a)) (Num (number_of b)))) h

pub numeric_rests : (o : BinaryOp) (a b : Tree) → is_numeric_op o ≡ true → number_redex o a b ≡ false → binary_redex o a b ≡ false
numeric_rests op.Sub a b n h = ap (λ c. c || false) h
numeric_rests op.Mul a b n h = ap (λ c. c || false) h
numeric_rests op.Div a b n h = ap (λ c. c || false) h
numeric_rests op.Mod a b n h = ap (λ c. c || false) h
numeric_rests op.Exp a b n h = ap (λ c. c || false) h
numeric_rests op.BitAnd a b n h = ap (λ c. c || false) h
numeric_rests op.BitOr a b n h = ap (λ c. c || false) h
numeric_rests op.BitXor a b n h = ap (λ c. c || false) h
numeric_rests op.LShift a b n h = ap (λ c. c || false) h
numeric_rests op.RShift a b n h = ap (λ c. c || false) h
numeric_rests op.ZeroFillRShift a b n h = ap (λ c. c || false) h
numeric_rests o a b n h = cc

no_left : (a b : Tree) → literal_number a ≡ None → (is_number a && is_number b) ≡ false
no_left (node (tree.NumLit z) ss cs) b h = cc
no_left (node l ss cs) b h = refl

no_right : (a b : Tree) → literal_number b ≡ None → (is_number a && is_number b) ≡ false
no_right a (node (tree.NumLit z) ss cs) h = cc
no_right a (node l ss cs) h = and_last (is_number a) false refl

pub left_rests : (o : BinaryOp) (a b : Tree) → is_numeric_op o ≡ true → literal_number a ≡ None → binary_redex o a b ≡ false
left_rests o a b n h = numeric_rests o a b n (no_numbers o a b (no_left a b h))

pub right_rests : (o : BinaryOp) (a b : Tree) → is_numeric_op o ≡ true → literal_number b ≡ None → binary_redex o a b ≡ false
right_rests o a b n h = numeric_rests o a b n (no_numbers o a b (no_right a b h))

pub comparison_rests : (o : BinaryOp) (a b : Tree) → is_comparison o ≡ true → (is_number a && is_number b) ≡ false → binary_redex o a b ≡ false
comparison_rests op.Lt a b n h = ap (λ c. c || false) (no_numbers op.Lt a b h)
comparison_rests op.Gt a b n h = ap (λ c. c || false) (no_numbers op.Gt a b h)
comparison_rests op.LtEq a b n h = ap (λ c. c || false) (no_numbers op.LtEq a b h)
comparison_rests op.GtEq a b n h = ap (λ c. c || false) (no_numbers op.GtEq a b h)
comparison_rests o a b n h = cc

numbers_unequal : (mark : ℕ) (o : BinaryOp) (a b : Tree) → is_equality o ≡ true → equal_known mark o a b ≡ None → (is_number a && is_number b) ≡ false
numbers_unequal mark op.EqEq (node (tree.NumLit x) ss cs) (node (tree.NumLit y) rs ds) n h = cc
numbers_unequal mark op.NotEq (node (tree.NumLit x) ss cs) (node (tree.NumLit y) rs ds) n h = cc
numbers_unequal mark op.EqEqEq (node (tree.NumLit x) ss cs) (node (tree.NumLit y) rs ds) n h = cc
numbers_unequal mark op.NotEqEq (node (tree.NumLit x) ss cs) (node (tree.NumLit y) rs ds) n h = cc
numbers_unequal mark o (node (tree.NumLit x) ss cs) (node (tree.NumLit y) rs ds) n h = cc
numbers_unequal mark o (node (tree.NumLit x) ss cs) (node l rs ds) n h = refl
numbers_unequal mark o (node l ss cs) b n h = refl

equal_rests : (o : BinaryOp) (a b : Tree) → is_equality o ≡ true → (is_number a && is_number b) ≡ false → binary_redex o a b ≡ false
equal_rests op.EqEq a b n h = ap (λ c. c || false) (no_numbers op.EqEq a b h)
equal_rests op.NotEq a b n h = ap (λ c. c || false) (no_numbers op.NotEq a b h)
equal_rests op.EqEqEq a b n h = ap (λ c. c || false) (no_numbers op.EqEqEq a b h)
equal_rests op.NotEqEq a b n h = ap (λ c. c || false) (no_numbers op.NotEqEq a b h)
equal_rests o a b n h = cc

pub equality_rests : (mark : ℕ) (o : BinaryOp) (a b : Tree) → is_equality o ≡ true → equal_known mark o a b ≡ None → binary_redex o a b ≡ false
equality_rests mark o a b n h = equal_rests o a b n (numbers_unequal mark o a b n h)

-- `+`
sums_rest : (mark : ℕ) (a b : Tree) → fold_texts mark a b ≡ None → ((r : Numeric) → fold_sum mark a b ≡ Some r → admits op.Add a b r ≡ false) → binary_redex op.Add a b ≡ false
unfolding binary_prim
sums_rest mark (node (tree.NumLit x) ss cs) (node (tree.NumLit y) rs ds) h f = or_from (number_redex op.Add (node (tree.NumLit x) ss cs) (node (tree.NumLit y) rs ds)) false (dead op.Add (node (tree.NumLit x) ss cs) (node (tree.NumLit y) rs ds) false (core_number (x +ℤ y)) (core_counts (x +ℤ y)) f) refl
sums_rest mark (node (tree.NumLit x) ss cs) (node l rs ds) h f = refl
sums_rest mark (node (tree.StrLit s) ss cs) (node (tree.StrLit t) rs ds) h f = cc
sums_rest mark (node (tree.StrLit s) ss cs) (node l rs ds) h f = refl
sums_rest mark (node l ss cs) b h f = refl

pub sum_none_rests : (mark : ℕ) (a b : Tree) → fold_texts mark a b ≡ None → fold_sum mark a b ≡ None → binary_redex op.Add a b ≡ false
sum_none_rests mark a b h k = sums_rest mark a b h (λ r e. cc (k, e))

pub sum_long_rests : (mark : ℕ) (a b : Tree) (k : Numeric) → fold_texts mark a b ≡ None → fold_sum mark a b ≡ Some k → admits op.Add a b k ≡ false → binary_redex op.Add a b ≡ false
sum_long_rests mark a b k h e m = sums_rest mark a b h (λ r i. ap (admits op.Add a b) (same (sym i ∙ e)) ∙ m)
  where
    same : {r : Numeric} → Some r ≡ Some k → r ≡ k
    same i = cc
