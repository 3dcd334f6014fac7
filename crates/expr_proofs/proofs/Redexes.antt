-- Operators and conditions on literals that tell what they give: what is known of their parts, and the rule that replaces them.
use Rattle.std.proofs.Common.{◌≡◌, ℕ, zero, suc, ℤ, pos, negsuc, ◌≤◌, ◌+ℤ◌, Bool, true, false, not, ◌&&◌, ◌||◌, List, Option, Some, None, refl, sym, ap, ap₂, subst, ◌∙◌, ⊎_elim, arith, IfSome, if◌then◌else◌, [], ◌++◌, codes, nat_le, nat_abs}
use Rattle.std.proofs.lemmas.Bool.{false≢true, and_parts, or_cases, not-true}
use Rattle.std.proofs.lemmas.Option.{none-some, same_Some}
use Rattle.swc_ast.specs.declared.Span.{Span}
use Rattle.swc_ast.specs.declared.UnaryOp.{UnaryOp}
use Rattle.swc_ast.specs.declared.UnaryOp.TheVariants.{Bang, TypeOf, Void}
use Rattle.swc_ast.specs.declared.BinaryOp.{BinaryOp}
use Rattle.swc_ast.specs.declared.BinaryOp.TheVariants.{EqEq, NotEq, EqEqEq, NotEqEq, Lt, LtEq, Gt, GtEq, LShift, RShift, ZeroFillRShift, Add, Sub, Mul, Div, Mod, Exp, BitOr, BitXor, BitAnd, LogicalOr, LogicalAnd}
use Rattle.swc_ast.specs.Tree.{NumLit, StrLit, BoolLit, NullLit, Unary, Binary, Tree, node, Forest, ε, ◌⊳◌}
use Rattle.swc_ast.specs.Value.{Value, NaN, Num, Text, Truth}
use Rattle.swc_ast.specs.Operators.{num, truthy, Numeric, NotANumber, Whole, number_value, compare_numbers, core_number, greatest, int_eq, binary_prim, binary_value}
use Rattle.swc_ast.specs.Weight.{own_weight, weight}
use Rattle.swc_ast.specs.Redex.{is_text, is_simple_word, is_simple_literal, is_zero, divides_by_zero, folds_numbers, is_bounded, length_rule, result_length, admitted, number_redex, is_short_circuit, is_add, binary_redex, unary_redex}
use Rattle.swc_utils.specs.Pure.{pure}
use Rattle.swc_utils.specs.Known.{truth, number, of_value}
use Rattle.swc_utils.specs.Types.{is_numeric_op, is_text_type, type_of, value_type}
use Rattle.swc_utils.specs.declared.answers.ValueType.TheVariants.{Num as NumberType}
use Rattle.swc_utils.proofs.Typed.{numeric_typed}
use Rattle.expr_rules.specs.Equality.{is_equality, equal_known}
use Rattle.expr_rules.specs.ExprSteps.{not_known, void_pure, typeof_expression, join_texts, add_numbers, compute_numbers, compare_known, equality, logical, choice}
use Rattle.expr_rules.specs.Comparisons.{compares, is_comparison}
use Rattle.expr_rules.specs.Arithmetic.{admits, as_numeric, divides, fold_numbers, fold_sum, fold_texts, is_zero as is_zero_number}
use Rattle.expr_rules.specs.TypeNames.{typeof_known}
use Rattle.expr_rules.specs.Choices.{is_logical}
use Rattle.expr_proofs.specs.Laws.{HasStep, RedexesStep}

-- What is known of the sides of an operator on literals that tell what it gives.
pub data BinaryKnown (mark : ℕ) (a b : Tree) : BinaryOp → Type 0 where
  sum : (r : Numeric) → fold_sum mark a b ≡ Some r → admits Add a b r ≡ true → BinaryKnown mark a b Add
  texts : (r : List ℕ) → fold_texts mark a b ≡ Some r → BinaryKnown mark a b Add
  numbers : {op : BinaryOp} (r : Numeric) → fold_numbers mark op a b ≡ Some r → admits op a b r ≡ true → BinaryKnown mark a b op
  order : {op : BinaryOp} (i j : Numeric) (r : Bool) → is_comparison op ≡ true → number mark a ≡ Some i → number mark b ≡ Some j → (is_text_type (type_of mark a) && is_text_type (type_of mark b)) ≡ false → compare_numbers (compares op) i j ≡ Some (Truth r) → BinaryKnown mark a b op
  equal : {op : BinaryOp} (r : Bool) → is_equality op ≡ true → equal_known mark op a b ≡ Some r → BinaryKnown mark a b op
  side : {op : BinaryOp} (known : Bool) → is_logical op ≡ true → truth mark a ≡ Some known → BinaryKnown mark a b op

-- the same of the operand of an operator in front of it
pub data UnaryKnown (mark : ℕ) (a : Tree) : UnaryOp → Type 0 where
  truth_known : (b : Bool) → truth mark a ≡ Some b → UnaryKnown mark a Bang
  type_known : (s : List ℕ) → typeof_known mark a ≡ Some s → UnaryKnown mark a TypeOf
  pure_known : pure mark a ≡ true → 2 ≤ weight a → UnaryKnown mark a Void

-- numbers

numeric_value : (v : Value) → value_type v ≡ NumberType → (k : Numeric) × (as_numeric v ≡ Some k)
numeric_value NaN h = (NotANumber, refl)
numeric_value (Num z) h = (Whole z, refl)
numeric_value _ h = cc

core_value : (z : ℤ) (v : Value) → core_number z ≡ Some v → (k : Numeric) × (as_numeric v ≡ Some k)
core_value z v h = by_size (nat_le (nat_abs z) greatest) h
  where
    by_size : (b : Bool) → (if b then Some (Num z) else None) ≡ Some v → (k : Numeric) × (as_numeric v ≡ Some k)
    by_size true h' = (Whole z, ap as_numeric (sym (same_Some _ _ h')))
    by_size false h' = absurd (none-some v h')

typed_value : (op : BinaryOp) (x y : ℤ) (v : Value) → is_numeric_op op ≡ true → binary_value op (Num x) (Num y) ≡ Some v → (k : Numeric) × (as_numeric v ≡ Some k)
typed_value op x y v n h = numeric_value v (subst (λ o. IfSome o (λ w. value_type w ≡ NumberType)) h (numeric_typed op (num x) (num y) n).by)

-- a known number that the length rule admits

numeric_back : (v : Value) (k : Numeric) → as_numeric v ≡ Some k → number_value k ≡ v
numeric_back NaN k h = ap number_value (sym (same_Some _ _ h))
numeric_back (Num z) k h = ap number_value (sym (same_Some _ _ h))
numeric_back _ k h = absurd (none-some k h)

admits_value : (op : BinaryOp) (a b : Tree) (v : Value) (k : Numeric) → as_numeric v ≡ Some k → admitted op a b (Some v) ≡ true → admits op a b k ≡ true
admits_value op a b v k e h = subst (λ w. (if is_bounded op b then length_rule a b (result_length w) else true) ≡ true) (sym (numeric_back v k e)) h

same_zero : (y : ℤ) (js : List Span) (us : Forest) → is_zero_number (Whole y) ≡ is_zero (node (NumLit y) js us)
same_zero (pos zero) js us = refl
same_zero (pos (suc n)) js us = refl
same_zero (negsuc n) js us = refl

module _ (mark : ℕ) (is js : List Span) (ts us : Forest) (x y : ℤ) where
  abbrev left : Tree
  left = node (NumLit x) is ts

  abbrev right : Tree
  right = node (NumLit y) js us

  numbers_known : (op : BinaryOp) (v : Value) → is_numeric_op op ≡ true → (divides op && is_zero_number (Whole y)) ≡ false → binary_value op (Num x) (Num y) ≡ Some v → admitted op left right (Some v) ≡ true → BinaryKnown mark left right op
  numbers_known op v n z h m =
      let k = typed_value op x y v n h in
      numbers k.0 (ap₂ (λ a b. if a && not b then of_value as_numeric (binary_value op (Num x) (Num y)) else None) n z ∙ ap (of_value as_numeric) h ∙ k.1) (admits_value op left right v k.0 k.1 m)

  sum_known : (v : Value) → binary_value Add (Num x) (Num y) ≡ Some v → admitted Add left right (Some v) ≡ true → BinaryKnown mark left right Add
  unfolding binary_prim
  sum_known v h m = let k = core_value (x +ℤ y) v h in sum k.0 (ap (of_value as_numeric) h ∙ k.1) (admits_value Add left right v k.0 k.1 m)

  order_known : (op : BinaryOp) → is_comparison op ≡ true → BinaryKnown mark left right op
  order_known op c = order (Whole x) (Whole y) (compares op x y) c refl refl refl refl

  operator_known : (op : BinaryOp) (v : Value) → folds_numbers op ≡ true → divides_by_zero op right ≡ false → binary_value op (Num x) (Num y) ≡ Some v → admitted op left right (Some v) ≡ true → BinaryKnown mark left right op
  operator_known Sub v f z h m = numbers_known Sub v refl refl h m
  operator_known Mul v f z h m = numbers_known Mul v refl refl h m
  operator_known Exp v f z h m = numbers_known Exp v refl refl h m
  operator_known BitAnd v f z h m = numbers_known BitAnd v refl refl h m
  operator_known BitOr v f z h m = numbers_known BitOr v refl refl h m
  operator_known BitXor v f z h m = numbers_known BitXor v refl refl h m
  operator_known LShift v f z h m = numbers_known LShift v refl refl h m
  operator_known RShift v f z h m = numbers_known RShift v refl refl h m
  operator_known ZeroFillRShift v f z h m = numbers_known ZeroFillRShift v refl refl h m
  operator_known Div v f z h m = numbers_known Div v refl (same_zero y js us ∙ z) h m
  operator_known Mod v f z h m = numbers_known Mod v refl (same_zero y js us ∙ z) h m
  operator_known Add v f z h m = sum_known v h m
  operator_known Lt v f z h m = order_known Lt refl
  operator_known Gt v f z h m = order_known Gt refl
  operator_known LtEq v f z h m = order_known LtEq refl
  operator_known GtEq v f z h m = order_known GtEq refl
  operator_known EqEq v f z h m = equal (int_eq x y) refl refl
  operator_known NotEq v f z h m = equal (int_eq x y) refl refl
  operator_known EqEqEq v f z h m = equal (int_eq x y) refl refl
  operator_known NotEqEq v f z h m = equal (int_eq x y) refl refl
  operator_known _ v f z h m = absurd (false≢true f)

-- an exact result
admitted_value : (op : BinaryOp) (a b : Tree) (o : Option Value) → admitted op a b o ≡ true → (v : Value) × (o ≡ Some v)
admitted_value op a b None h = absurd (false≢true h)
admitted_value op a b (Some v) h = (v, refl)

number_redex_known : (mark : ℕ) (op : BinaryOp) (a b : Tree) → number_redex op a b ≡ true → BinaryKnown mark a b op
number_redex_known mark op (node (NumLit x) is ts) (node (NumLit y) js us) h =
    let p = and_parts (folds_numbers op && not (divides_by_zero op (node (NumLit y) js us))) _ h in
    let q = and_parts (folds_numbers op) (not (divides_by_zero op (node (NumLit y) js us))) p.0 in
    let v = admitted_value op (node (NumLit x) is ts) (node (NumLit y) js us) (binary_value op (Num x) (Num y)) p.1 in
    operator_known mark is js ts us x y op v.0 q.0 (not-true _ q.1) v.1 (subst (λ o. admitted op (node (NumLit x) is ts) (node (NumLit y) js us) o ≡ true) v.1 p.1)
number_redex_known mark op (node (NumLit x) is ts) _ h = absurd (false≢true h)
number_redex_known mark op _ b h = absurd (false≢true h)

-- texts, and literals that decide

texts_known : (mark : ℕ) (a b : Tree) → is_text a ≡ true → is_text b ≡ true → BinaryKnown mark a b Add
texts_known mark (node (StrLit s) is ts) (node (StrLit t) js us) h i = texts (s ++ t) refl
texts_known mark (node (StrLit s) is ts) _ h i = absurd (false≢true i)
texts_known mark _ b h i = absurd (false≢true h)

pub literal_truth : (mark : ℕ) (a : Tree) → is_simple_literal a ≡ true → (b : Bool) × (truth mark a ≡ Some b)
literal_truth mark (node (NumLit z) ss ts) h = (truthy (Num z), refl)
literal_truth mark (node (StrLit t) ss ts) h = (truthy (Text t), refl)
literal_truth mark (node (BoolLit b) ss ts) h = (b, refl)
literal_truth mark (node NullLit ss ts) h = (false, refl)
literal_truth mark _ h = absurd (false≢true h)

short_logical : (op : BinaryOp) → is_short_circuit op ≡ true → is_logical op ≡ true
short_logical LogicalAnd h = refl
short_logical LogicalOr h = refl
short_logical _ h = absurd (false≢true h)

side_known : (mark : ℕ) (op : BinaryOp) (a b : Tree) → is_short_circuit op ≡ true → is_simple_literal a ≡ true → BinaryKnown mark a b op
side_known mark op a b h i = let t = literal_truth mark a i in side t.0 (short_logical op h) t.1

is_adding : (op : BinaryOp) → is_add op ≡ true → op ≡ Add
is_adding Add h = refl
is_adding _ h = absurd (false≢true h)

pub binary_known : (mark : ℕ) (op : BinaryOp) (a b : Tree) → binary_redex op a b ≡ true → BinaryKnown mark a b op
binary_known mark op a b h =
    ⊎_elim (number_redex_known mark op a b)
    (λ r. ⊎_elim both_texts (λ q. let p = and_parts (is_short_circuit op) (is_simple_literal a) q in side_known mark op a b p.0 p.1) (or_cases (is_add op && is_text a && is_text b) (is_short_circuit op && is_simple_literal a) r))
    (or_cases (number_redex op a b) _ h)
  where
    both_texts : (is_add op && is_text a && is_text b) ≡ true → BinaryKnown mark a b op
    both_texts q =
        let p = and_parts (is_add op && is_text a) (is_text b) q in
        let r = and_parts (is_add op) (is_text a) p.0 in
        subst (BinaryKnown mark a b) (sym (is_adding op r.0)) (texts_known mark a b r.1 p.1)

-- operators in front of an operand

not_known_of : (mark : ℕ) (a : Tree) → (is_text a || is_simple_word a) ≡ true → UnaryKnown mark a Bang
not_known_of mark (node (StrLit t) is ts) h = truth_known (truthy (Text t)) refl
not_known_of mark (node (BoolLit b) is ts) h = truth_known b refl
not_known_of mark (node NullLit is ts) h = truth_known false refl
not_known_of mark _ h = absurd (false≢true h)

type_known_of : (mark : ℕ) (a : Tree) → is_simple_literal a ≡ true → UnaryKnown mark a TypeOf
type_known_of mark (node (NumLit z) is ts) h = type_known (codes "number") refl
type_known_of mark (node (StrLit t) is ts) h = type_known (codes "string") refl
type_known_of mark (node (BoolLit b) is ts) h = type_known (codes "boolean") refl
type_known_of mark (node NullLit is ts) h = type_known (codes "object") refl
type_known_of mark _ h = absurd (false≢true h)

literal_weighs : (a : Tree) → is_simple_literal a ≡ true → is_zero a ≡ false → 2 ≤ weight a
unfolding own_weight
literal_weighs (node (NumLit (pos zero)) ss ts) h z = absurd (false≢true (sym z))
literal_weighs (node (NumLit (pos (suc n))) ss ts) h z = omega arith
literal_weighs (node (NumLit (negsuc n)) ss ts) h z = omega arith
literal_weighs (node (StrLit t) ss ts) h z = omega arith
literal_weighs (node (BoolLit b) ss ts) h z = omega arith
literal_weighs (node NullLit ss ts) h z = omega arith
literal_weighs _ h z = absurd (false≢true h)

literal_pure : (mark : ℕ) (a : Tree) → is_simple_literal a ≡ true → pure mark a ≡ true
literal_pure mark (node (NumLit z) ss ts) h = refl
literal_pure mark (node (StrLit t) ss ts) h = refl
literal_pure mark (node (BoolLit b) ss ts) h = refl
literal_pure mark (node NullLit ss ts) h = refl
literal_pure mark _ h = absurd (false≢true h)

pub unary_known : (mark : ℕ) (op : UnaryOp) (a : Tree) → unary_redex op a ≡ true → UnaryKnown mark a op
unary_known mark Bang a h = not_known_of mark a h
unary_known mark TypeOf a h = type_known_of mark a h
unary_known mark Void a h = let p = and_parts (is_simple_literal a) (not (is_zero a)) h in pure_known (literal_pure mark a p.0) (literal_weighs a p.0 (not-true (is_zero a) p.1))
unary_known mark _ a h = absurd (false≢true h)

-- what is known gives a step

binary_step : (mark : ℕ) (op : BinaryOp) (ss : List Span) (a b : Tree) → BinaryKnown mark a b op → HasStep mark (node (Binary op) ss (a ⊳ b ⊳ ε))
binary_step mark op ss a b (sum r h m) = (_, add_numbers ss [] a b r h m)
binary_step mark op ss a b (texts r h) = (_, join_texts ss [] a b r h)
binary_step mark op ss a b (numbers r h m) = (_, compute_numbers op ss [] a b r h m)
binary_step mark op ss a b (order i j r c ha hb ty h) = (_, compare_known op ss [] a b i j r c ha hb ty h)
binary_step mark op ss a b (equal r c h) = (_, equality op ss [] [] a b r c h)
binary_step mark op ss a b (side known c h) = (_, logical op ss [] a b known c h)

unary_step : (mark : ℕ) (op : UnaryOp) (ss : List Span) (a : Tree) → UnaryKnown mark a op → HasStep mark (node (Unary op) ss (a ⊳ ε))
unary_step mark op ss a (truth_known b h) = (_, not_known ss [] [] a b h)
unary_step mark op ss a (type_known s h) = (_, typeof_expression ss [] [] a s h)
unary_step mark op ss a (pure_known h l) = (_, void_pure ss [] [] a h l)

pub redexes_step : (mark : ℕ) (ss : List Span) → RedexesStep mark ss
redexes_step mark ss = record {
  binary = λ op a b h. binary_step mark op ss a b (binary_known mark op a b h);
  unary = λ op a h. unary_step mark op ss a (unary_known mark op a h);
  condition = λ t a b h. let k = literal_truth mark t h in (_, choice ss [] t a b k.0 k.1);
}
