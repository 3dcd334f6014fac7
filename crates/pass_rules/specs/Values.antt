-- The value of an expression, by its type and what is known under it.
use Rattle.std.specs.Prelude.{Bool, List, None, Option, Some, false, true, ℕ}
use Rattle.swc_ast.specs.Operators.{Numeric, number_value}
use Rattle.swc_ast.specs.Tree.{Tree}
use Rattle.swc_ast.specs.Value.{Null, Text, Truth, Undefined, Value}
use Rattle.swc_utils.specs.Known.{number, text, truth}
use Rattle.swc_utils.specs.Types.{type_of}
use Rattle.swc_utils.specs.declared.answers.ValueType.{ValueType}
use Rattle.swc_utils.specs.declared.answers.ValueType.TheVariants.{Bool as TruthType, Null as NullType, Num as NumberType, Obj as ObjectType, Str as TextType, Undefined as UndefinedType}

-- the value of a known number
abbrev pub number_of : Option Numeric → Option Value
number_of None = None
number_of (Some k) = Some (number_value k)

-- the value of a known text
abbrev pub text_value : Option (List ℕ) → Option Value
text_value None = None
text_value (Some t) = Some (Text t)

-- the value of a known truth
abbrev pub truth_of_known : Option Bool → Option Value
truth_of_known None = None
truth_of_known (Some b) = Some (Truth b)

-- the value of a type, by the truth, the number and the text that are known
abbrev pub value_by_type : Option ValueType → Option Bool → Option Numeric → Option (List ℕ) → Option Value
value_by_type None b k t = None
value_by_type (Some UndefinedType) b k t = Some Undefined
value_by_type (Some NullType) b k t = Some Null
value_by_type (Some TruthType) b k t = truth_of_known b
value_by_type (Some NumberType) b k t = number_of k
value_by_type (Some TextType) b k t = text_value t
value_by_type (Some ObjectType) b k t = None

-- the value of an expression, if it is known; a run of it may still do something before
abbrev pub value_of : ℕ → Tree → Option Value
value_of mark t = value_by_type (type_of mark t) (truth mark t) (number mark t) (text mark t)

-- undefined or null
abbrev pub is_nullish_type : ValueType → Bool
is_nullish_type UndefinedType = true
is_nullish_type NullType = true
is_nullish_type _ = false
