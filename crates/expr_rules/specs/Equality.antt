-- What is known of `==`, `===`, `!=` and `!==` without running their sides. ECMA-262, 7.2.13 and 7.2.14.
use Rattle.std.specs.Prelude.{Bool, List, None, Option, Some, [], false, if◌then◌else◌, not, true, ℕ, ◌&&◌, ◌==◌, ◌||◌, ◌∷◌}
use Rattle.swc_ast.specs.Operators.{Numeric, both, numeric_equal, prim, strict_equal}
use Rattle.swc_ast.specs.Tree.{Tree}
use Rattle.swc_ast.specs.Value.{Text, Value}
use Rattle.swc_ast.specs.declared.BinaryOp.{BinaryOp}
use Rattle.swc_ast.specs.declared.BinaryOp.TheVariants.{EqEq, EqEqEq, NotEq, NotEqEq}
use Rattle.swc_utils.specs.Globals.{is_nan}
use Rattle.swc_utils.specs.Known.{number}
use Rattle.swc_utils.specs.Pure.{pure}
use Rattle.swc_utils.specs.Types.{same_type, type_of}
use Rattle.swc_utils.specs.declared.answers.ValueType.{ValueType}
use Rattle.swc_utils.specs.declared.answers.ValueType.TheVariants.{Bool as TruthType, Obj as ObjectType}
use Rattle.pass_rules.specs.Values.{is_nullish_type, value_of}

-- `==`, `!=`, `===` and `!==`
abbrev pub is_equality : BinaryOp → Bool
is_equality EqEq = true
is_equality NotEq = true
is_equality EqEqEq = true
is_equality NotEqEq = true
is_equality _ = false

-- whether an operator asks for equal types too
abbrev pub is_strict_equality : BinaryOp → Bool
is_strict_equality EqEqEq = true
is_strict_equality NotEqEq = true
is_strict_equality _ = false

-- what an operator says of sides that are equal, or not
abbrev pub tells : BinaryOp → Bool → Bool
tells NotEq b = not b
tells NotEqEq b = not b
tells _ b = b

-- a text without a vertical tab
abbrev pub no_vertical_tab : List ℕ → Bool
no_vertical_tab [] = true
no_vertical_tab (c ∷ cs) = not (c == 11) && no_vertical_tab cs

-- a value that is no text with a vertical tab
abbrev pub no_tab_in : Value → Bool
no_tab_in (Text t) = no_vertical_tab t
no_tab_in _ = true

-- a truth
abbrev pub is_truth_type : ValueType → Bool
is_truth_type TruthType = true
is_truth_type _ = false

-- whether a known value may be compared: no text with a vertical tab, and no truth of an impure side
abbrev pub may_compare : ValueType → Bool → Value → Bool
may_compare τ is_pure v = no_tab_in v && (not (is_truth_type τ) || is_pure)

-- the value of a side that may be compared
abbrev pub compared : ℕ → Tree → ValueType → Option Value → Option Value
compared mark t τ None = None
compared mark t τ (Some v) = if may_compare τ (pure mark t) v then Some v else None

-- two known values, compared strictly
abbrev pub equal_values : Option Value → Option Value → Option Bool
equal_values (Some v) (Some w) = strict_equal (prim v) (prim w)
equal_values v w = None

-- of two sides of one type
abbrev pub alike_known : ℕ → Tree → Tree → ValueType → Option Bool
alike_known mark a b τ = equal_values (compared mark a τ (value_of mark a)) (compared mark b τ (value_of mark b))

-- whether a side is `NaN`
abbrev pub is_nan_side : ℕ → Tree → Tree → Bool
is_nan_side mark a b = is_nan mark a || is_nan mark b

-- `===` by the types of both sides
abbrev pub strict_by_types : ℕ → Tree → Tree → Option ValueType → Option ValueType → Option Bool
strict_by_types mark a b (Some σ) (Some τ) = if same_type σ τ then alike_known mark a b σ else Some false
strict_by_types mark a b σ τ = None

-- `===`: a side is NaN, the types are known and differ, or both values are known
abbrev pub strict_known : ℕ → Tree → Tree → Option Bool
strict_known mark a b = if is_nan_side mark a b then Some false else strict_by_types mark a b (type_of mark a) (type_of mark b)

-- an object
abbrev pub is_object_type : ValueType → Bool
is_object_type ObjectType = true
is_object_type _ = false

-- of sides of different types: null and undefined equal each other alone; an object beside anything else is left open;
-- all others are compared as numbers
abbrev pub loose_apart : ValueType → ValueType → Option Numeric → Option Numeric → Option Bool
loose_apart σ τ i j =
    if is_nullish_type σ || is_nullish_type τ then Some (is_nullish_type σ && is_nullish_type τ)
    else (if is_object_type σ || is_object_type τ then None else both numeric_equal i j)

-- `==` by the types of both sides
abbrev pub loose_by_types : ℕ → Tree → Tree → Option ValueType → Option ValueType → Option Bool
loose_by_types mark a b (Some σ) (Some τ) = if same_type σ τ then strict_known mark a b else loose_apart σ τ (number mark a) (number mark b)
loose_by_types mark a b σ τ = None

-- `==`: both types are known
abbrev pub loose_known : ℕ → Tree → Tree → Option Bool
loose_known mark a b = loose_by_types mark a b (type_of mark a) (type_of mark b)

-- what one of the operators compares: strictly, or not
abbrev pub equal_known : ℕ → BinaryOp → Tree → Tree → Option Bool
equal_known mark op a b = if is_strict_equality op then strict_known mark a b else loose_known mark a b
