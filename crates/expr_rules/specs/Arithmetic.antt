-- What operators give on operands of known numbers and texts. ECMA-262, 13.15.3.
use Rattle.std.specs.Prelude.{Bool, List, None, Option, Some, false, if◌then◌else◌, not, pos, true, zero, ℕ, ◌&&◌, ◌||◌}
use Rattle.swc_ast.specs.Operators.{NotANumber, Numeric, Whole, binary_value, number_value, plus, prim}
use Rattle.swc_ast.specs.Redex.{is_bounded, length_rule, result_length}
use Rattle.swc_ast.specs.Tree.{Tree}
use Rattle.swc_ast.specs.Value.{NaN, Num, Value}
use Rattle.swc_ast.specs.declared.BinaryOp.{BinaryOp}
use Rattle.swc_ast.specs.declared.BinaryOp.TheVariants.{BitAnd, BitOr, BitXor, Div, Mod, Mul}
use Rattle.swc_utils.specs.Known.{joined_texts, number, of_value, text}
use Rattle.swc_utils.specs.Types.{is_numeric_op, is_text_type, plus_type, type_of}
use Rattle.swc_utils.specs.declared.answers.ValueType.{ValueType}
use Rattle.swc_utils.specs.declared.answers.ValueType.TheVariants.{Num as NumberType}

-- the number that a value is
abbrev pub as_numeric : Value → Option Numeric
as_numeric NaN = Some NotANumber
as_numeric (Num z) = Some (Whole z)
as_numeric _ = None

-- the number 0
abbrev pub is_zero : Numeric → Bool
is_zero (Whole (pos zero)) = true
is_zero _ = false

-- `/` and `%`
abbrev pub divides : BinaryOp → Bool
divides Div = true
divides Mod = true
divides _ = false

-- the number of an operator on two known numbers, if it is one of the core
abbrev pub computed : BinaryOp → Option Numeric → Option Numeric → Option Numeric
computed op (Some a) (Some b) = if is_numeric_op op && not (divides op && is_zero b) then of_value as_numeric (binary_value op (number_value a) (number_value b)) else None
computed op a b = None

-- a numeric operator on two known numbers
abbrev pub fold_numbers : ℕ → BinaryOp → Tree → Tree → Option Numeric
fold_numbers mark op a b = computed op (number mark a) (number mark b)

-- the sum of two known numbers, if it is one of the core
abbrev pub summed : Option Numeric → Option Numeric → Option Numeric
summed (Some a) (Some b) = of_value as_numeric (plus (prim (number_value a)) (prim (number_value b)))
summed a b = None

-- known to be a number
abbrev pub is_number_type : Option ValueType → Bool
is_number_type (Some NumberType) = true
is_number_type _ = false

-- `+` of two known numbers, where the sum is of type number
abbrev pub fold_sum : ℕ → Tree → Tree → Option Numeric
fold_sum mark a b = if is_number_type (plus_type (type_of mark a) (type_of mark b)) then summed (number mark a) (number mark b) else None

-- whether the length rule lets a number replace an operator on two operands
abbrev pub admits : BinaryOp → Tree → Tree → Numeric → Bool
admits op a b r = if is_bounded op b then length_rule a b (result_length (number_value r)) else true

-- operators whose grouping is free: `*`, `&`, `|` and `^`
abbrev pub regroups : BinaryOp → Bool
regroups Mul = true
regroups BitAnd = true
regroups BitOr = true
regroups BitXor = true
regroups _ = false

-- `+` of two known texts, where a side is of type text
abbrev pub fold_texts : ℕ → Tree → Tree → Option (List ℕ)
fold_texts mark a b = if is_text_type (type_of mark a) || is_text_type (type_of mark b) then joined_texts (text mark a) (text mark b) else None
