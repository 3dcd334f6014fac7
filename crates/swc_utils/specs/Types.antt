-- The type of the value of an expression, where it is known.
use Rattle.std.specs.Prelude.{ℕ, Bool, true, false, ◌&&◌, ◌||◌, if◌then◌else◌, List, Option, Some, None, bytes_eq, codes}
use Rattle.swc_ast.specs.declared.UnaryOp.{UnaryOp}
use Rattle.swc_ast.specs.declared.UnaryOp.TheVariants.{Minus, Plus, Bang, Tilde, TypeOf, Void, Delete}
use Rattle.swc_ast.specs.declared.BinaryOp.{BinaryOp}
use Rattle.swc_ast.specs.declared.BinaryOp.TheVariants.{LShift, RShift, ZeroFillRShift, Add, Sub, Mul, Div, Mod, Exp, BitOr, BitXor, BitAnd, LogicalOr, LogicalAnd, NullishCoalescing}
use Rattle.swc_ast.specs.Tree.{Name, Read, Template, Array, Object, Fn, Arrow, Unary, TypeOfName, Binary, Cond, Seq, Assign, AssignDot, AssignIndex, Update, UpdateDot, UpdateIndex, Tree, node, Forest, ε, ◌⊳◌}
use Rattle.swc_ast.specs.Value.{Value}
use Rattle.swc_ast.specs.Operators.{Prim, undefined, null, nan, object, truth as truth_of, num, text as text_of, prim}
use Rattle.swc_ast.specs.Meaning.{is_unresolved, operator_of}
use Rattle.swc_utils.specs.declared.answers.ValueType.{ValueType}
use Rattle.swc_utils.specs.declared.answers.ValueType.TheVariants.{Undefined as UndefinedType, Null as NullType, Bool as TruthType, Num as NumberType, Str as TextType, Obj as ObjectType}
use Rattle.swc_utils.specs.Known.{literal, of_value}

-- the type of what operators see
abbrev pub prim_type : Prim → ValueType
prim_type undefined = UndefinedType
prim_type null = NullType
prim_type nan = NumberType
prim_type object = ObjectType
prim_type (truth_of b) = TruthType
prim_type (num z) = NumberType
prim_type (text_of t) = TextType

-- the type of a value
abbrev pub value_type : Value → ValueType
value_type v = prim_type (prim v)

-- whether two types are one
abbrev pub same_type : ValueType → ValueType → Bool
same_type UndefinedType UndefinedType = true
same_type NullType NullType = true
same_type TruthType TruthType = true
same_type NumberType NumberType = true
same_type TextType TextType = true
same_type ObjectType ObjectType = true
same_type a b = false

-- the type of both, if they agree
abbrev pub agreed : Option ValueType → Option ValueType → Option ValueType
agreed (Some a) (Some b) = if same_type a b then Some a else None
agreed a b = None

-- known to be text
abbrev pub is_text_type : Option ValueType → Bool
is_text_type (Some TextType) = true
is_text_type _ = false

-- known, and neither text nor object
abbrev pub is_number_like : Option ValueType → Bool
is_number_like None = false
is_number_like (Some TextType) = false
is_number_like (Some ObjectType) = false
is_number_like (Some t) = true

-- `+`: text if a side is text, number if both are known and neither text nor object
abbrev pub plus_type : Option ValueType → Option ValueType → Option ValueType
plus_type a b = if is_text_type a || is_text_type b then Some TextType else (if is_number_like a && is_number_like b then Some NumberType else None)

-- operators whose value is always a number
abbrev pub is_numeric_op : BinaryOp → Bool
is_numeric_op Sub = true
is_numeric_op Mul = true
is_numeric_op Div = true
is_numeric_op Mod = true
is_numeric_op Exp = true
is_numeric_op BitAnd = true
is_numeric_op BitOr = true
is_numeric_op BitXor = true
is_numeric_op LShift = true
is_numeric_op RShift = true
is_numeric_op ZeroFillRShift = true
is_numeric_op _ = false

-- of an operator between operands, by the types of both sides
abbrev pub binary_type : BinaryOp → Option ValueType → Option ValueType → Option ValueType
binary_type Add a b = plus_type a b
binary_type LogicalOr a b = agreed a b
binary_type LogicalAnd a b = agreed a b
binary_type NullishCoalescing a b = None
binary_type op a b = Some (if is_numeric_op op then NumberType else TruthType)

-- of an operator in front of an operand
abbrev pub unary_type : UnaryOp → ValueType
unary_type Minus = NumberType
unary_type Plus = NumberType
unary_type Tilde = NumberType
unary_type Bang = TruthType
unary_type TypeOf = TextType
unary_type Void = UndefinedType
unary_type Delete = TruthType

-- of an assignment, by its operator, if any, and the type of the right side
abbrev pub assign_type : Option BinaryOp → Option ValueType → Option ValueType
assign_type None b = b
assign_type (Some Add) b = if is_text_type b then b else None
assign_type (Some op) b = if is_numeric_op op then Some NumberType else None

-- of the host's name of a text: `undefined`, `NaN` and `Infinity` have one type in each world
abbrev pub constant_type : List ℕ → Option ValueType
constant_type x = if bytes_eq x (codes "undefined") then Some UndefinedType else (if bytes_eq x (codes "NaN") then Some NumberType else (if bytes_eq x (codes "Infinity") then Some NumberType else None))

-- of a name
abbrev pub name_type : ℕ → Name → Option ValueType
name_type mark x = if is_unresolved mark x then constant_type x.text else None

abbrev mutual
  -- the type of an expression's value
  pub type_of : ℕ → Tree → Option ValueType
  type_of mark (node (Read x) ss ts) = name_type mark x
  type_of mark (node (Fn o) ss ts) = Some ObjectType
  type_of mark (node Arrow ss ts) = Some ObjectType
  type_of mark (node (Array ks) ss ts) = Some ObjectType
  type_of mark (node Object ss ts) = Some ObjectType
  type_of mark (node (Template qs) ss ts) = Some TextType
  type_of mark (node (TypeOfName x) ss ts) = Some TextType
  type_of mark (node (Update op prefix x) ss ts) = Some NumberType
  type_of mark (node (UpdateDot op prefix k) ss ts) = Some NumberType
  type_of mark (node (UpdateIndex op prefix) ss ts) = Some NumberType
  type_of mark (node (Assign op x) ss (r ⊳ ε)) = assign_type (operator_of op) (type_of mark r)
  type_of mark (node (AssignDot op k) ss (o ⊳ r ⊳ ε)) = assign_type (operator_of op) (type_of mark r)
  type_of mark (node (AssignIndex op) ss (o ⊳ k ⊳ r ⊳ ε)) = assign_type (operator_of op) (type_of mark r)
  type_of mark (node (Unary op) ss (a ⊳ ε)) = Some (unary_type op)
  type_of mark (node (Binary op) ss (a ⊳ b ⊳ ε)) = binary_type op (type_of mark a) (type_of mark b)
  type_of mark (node Cond ss (t ⊳ a ⊳ b ⊳ ε)) = agreed (type_of mark a) (type_of mark b)
  type_of mark (node Seq ss ts) = last_type mark ts
  type_of mark (node l ss ts) = of_value (λ v. Some (value_type v)) (literal mark l)

  -- the type of the last of some expressions
  pub last_type : ℕ → Forest → Option ValueType
  last_type mark ε = None
  last_type mark (t ⊳ ε) = type_of mark t
  last_type mark (t ⊳ u ⊳ ts) = last_type mark (u ⊳ ts)
