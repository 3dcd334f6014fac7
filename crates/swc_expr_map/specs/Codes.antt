-- What labels are compared by: a number for what a node is, and its fields without contexts.
use Rattle.std.specs.Prelude.{ℕ, ℤ, pos, Bool, true, false, List, [], ◌∷◌, map, Option, Some, None}
use Rattle.swc_ast.specs.Tree as tree
use Rattle.swc_ast.specs.Tree.{Text, Name, Key, NameKey, TextKey, NumberKey, ItemKind, Plain, Spread, Hole, Label}
use Rattle.swc_ast.specs.declared.UnaryOp.{UnaryOp}
use Rattle.swc_ast.specs.declared.UnaryOp.TheVariants as unary
use Rattle.swc_ast.specs.declared.UpdateOp.{UpdateOp}
use Rattle.swc_ast.specs.declared.UpdateOp.TheVariants as update
use Rattle.swc_ast.specs.declared.BinaryOp.{BinaryOp}
use Rattle.swc_ast.specs.declared.BinaryOp.TheVariants as binary
use Rattle.swc_ast.specs.declared.AssignOp.{AssignOp}
use Rattle.swc_ast.specs.declared.AssignOp.TheVariants as assign
use Rattle.swc_ast.specs.declared.VarDeclKind.{VarDeclKind}
use Rattle.swc_ast.specs.declared.VarDeclKind.TheVariants as kind

-- texts in a row, each with a number
abbrev pub Row : Type 0
Row = List (ℕ × Text)

-- What a label is compared by. Only imports and exports have their context.
pub record Code : Type 0 where
  pub rank : ℕ
  pub number : ℤ
  pub context : ℕ
  pub row : Row

abbrev pub one_text : Text → Row
one_text s = (0, s) ∷ []

abbrev pub optional_text : Option Text → Row
optional_text None = []
optional_text (Some s) = one_text s

abbrev pub optional_name : Option Name → Row
optional_name None = []
optional_name (Some x) = one_text x.text

abbrev pub optional_context : Option Name → ℕ
optional_context None = 0
optional_context (Some x) = x.context

-- two texts, the second of which may be left out
abbrev pub two_texts : Text → Option Text → Row
two_texts s o = (0, s) ∷ optional_text o

-- numbers without texts
abbrev pub only_number : ℕ → ℕ × Text
only_number n = (n, [])

abbrev pub truth_number : Bool → ℕ
truth_number false = 0
truth_number true = 1

abbrev pub item_number : ItemKind → ℕ
item_number Plain = 0
item_number Spread = 1
item_number Hole = 2

abbrev pub quasi_entry : Text × Bool → ℕ × Text
quasi_entry q = (truth_number q.1, q.0)

abbrev pub unary_number : UnaryOp → ℕ
unary_number unary.Minus = 0
unary_number unary.Plus = 1
unary_number unary.Bang = 2
unary_number unary.Tilde = 3
unary_number unary.TypeOf = 4
unary_number unary.Void = 5
unary_number unary.Delete = 6

abbrev pub binary_number : BinaryOp → ℕ
binary_number binary.EqEq = 0
binary_number binary.NotEq = 1
binary_number binary.EqEqEq = 2
binary_number binary.NotEqEq = 3
binary_number binary.Lt = 4
binary_number binary.LtEq = 5
binary_number binary.Gt = 6
binary_number binary.GtEq = 7
binary_number binary.LShift = 8
binary_number binary.RShift = 9
binary_number binary.ZeroFillRShift = 10
binary_number binary.Add = 11
binary_number binary.Sub = 12
binary_number binary.Mul = 13
binary_number binary.Div = 14
binary_number binary.Mod = 15
binary_number binary.Exp = 16
binary_number binary.BitOr = 17
binary_number binary.BitXor = 18
binary_number binary.BitAnd = 19
binary_number binary.LogicalOr = 20
binary_number binary.LogicalAnd = 21
binary_number binary.In = 22
binary_number binary.InstanceOf = 23
binary_number binary.NullishCoalescing = 24

abbrev pub assign_number : AssignOp → ℕ
assign_number assign.Assign = 0
assign_number assign.AddAssign = 1
assign_number assign.SubAssign = 2
assign_number assign.MulAssign = 3
assign_number assign.DivAssign = 4
assign_number assign.ModAssign = 5
assign_number assign.ExpAssign = 6
assign_number assign.LShiftAssign = 7
assign_number assign.RShiftAssign = 8
assign_number assign.ZeroFillRShiftAssign = 9
assign_number assign.BitOrAssign = 10
assign_number assign.BitXorAssign = 11
assign_number assign.BitAndAssign = 12
assign_number assign.AndAssign = 13
assign_number assign.OrAssign = 14
assign_number assign.NullishAssign = 15

-- `++a`, `a++`, `--a`, `a--`
abbrev pub update_number : UpdateOp → Bool → ℕ
update_number update.PlusPlus true = 0
update_number update.PlusPlus false = 1
update_number update.MinusMinus true = 2
update_number update.MinusMinus false = 3

abbrev pub word_number : VarDeclKind → ℕ
word_number kind.Var = 0
word_number kind.Let = 1
word_number kind.Const = 2

-- no fields; a number; texts; both
abbrev pub plain : ℕ → Code
plain r = record { rank = r; number = pos 0; context = 0; row = [] }

abbrev pub numbered : ℕ → ℤ → Code
numbered r z = record { rank = r; number = z; context = 0; row = [] }

abbrev pub listed : ℕ → Row → Code
listed r ts = record { rank = r; number = pos 0; context = 0; row = ts }

abbrev pub both : ℕ → ℕ → Row → Code
both r n ts = record { rank = r; number = pos n; context = 0; row = ts }

-- a name that is imported or exported
abbrev pub named : ℕ → ℕ → Row → Code
named r c ts = record { rank = r; number = pos 0; context = c; row = ts }

abbrev pub handler_code : ℕ → Option (Option Name) → Code
handler_code r None = plain r
handler_code r (Some o) = both r 1 (optional_name o)

abbrev pub key_code : Key → Code
key_code (NameKey s) = listed 17 (one_text s)
key_code (TextKey s) = listed 18 (one_text s)
key_code (NumberKey z) = numbered 19 z

-- the code of a label
unfoldable pub label_code : Label → Code
label_code (tree.NumLit z) = numbered 0 z
label_code (tree.StrLit s) = listed 1 (one_text s)
label_code (tree.BoolLit b) = both 2 (truth_number b) []
label_code tree.NullLit = plain 3
label_code tree.This = plain 4
label_code tree.Invalid = plain 5
label_code (tree.Read x) = listed 6 (one_text x.text)
label_code (tree.Dot s) = listed 7 (one_text s)
label_code tree.Index = plain 8
label_code (tree.Template qs) = listed 9 (map quasi_entry qs)
label_code (tree.Array ks) = listed 10 (map (λ k. only_number (item_number k)) ks)
label_code tree.Object = plain 11
label_code tree.SpreadRecord = plain 12
label_code tree.KeyValue = plain 13
label_code (tree.Shorthand x) = listed 14 (one_text x.text)
label_code tree.Method = plain 15
label_code tree.ComputedKey = plain 16
label_code (tree.PlainKey k) = key_code k
label_code (tree.Fn o) = listed 20 (optional_name o)
label_code tree.Arrow = plain 21
label_code tree.Params = plain 22
label_code tree.Body = plain 23
label_code (tree.Param x) = listed 24 (one_text x.text)
label_code (tree.Unary op) = both 25 (unary_number op) []
label_code (tree.TypeOfName x) = listed 26 (one_text x.text)
label_code (tree.Binary op) = both 27 (binary_number op) []
label_code tree.Cond = plain 28
label_code tree.Seq = plain 29
label_code tree.Call = plain 30
label_code tree.New = plain 31
label_code (tree.CallEval x) = listed 32 (one_text x.text)
label_code (tree.CallDot s) = listed 33 (one_text s)
label_code tree.CallIndex = plain 34
label_code (tree.Assign op x) = both 35 (assign_number op) (one_text x.text)
label_code (tree.AssignDot op s) = both 36 (assign_number op) (one_text s)
label_code (tree.AssignIndex op) = both 37 (assign_number op) []
label_code (tree.Update op prefix x) = both 38 (update_number op prefix) (one_text x.text)
label_code (tree.UpdateDot op prefix s) = both 39 (update_number op prefix) (one_text s)
label_code (tree.UpdateIndex op prefix) = both 40 (update_number op prefix) []
label_code tree.Block = plain 41
label_code tree.Empty = plain 42
label_code tree.Throw = plain 43
label_code tree.ExprStmt = plain 44
label_code tree.Return = plain 45
label_code tree.If = plain 46
label_code tree.While = plain 47
label_code tree.DoWhile = plain 48
label_code tree.For = plain 49
label_code tree.Absent = plain 50
label_code (tree.Labeled s) = listed 51 (one_text s)
label_code (tree.Break o) = listed 52 (optional_text o)
label_code (tree.Continue o) = listed 53 (optional_text o)
label_code (tree.Switch bs) = listed 54 (map (λ b. only_number (truth_number b)) bs)
label_code tree.CaseBody = plain 55
label_code (tree.Try o) = handler_code 56 o
label_code (tree.VarDecl k) = both 57 (word_number k) []
label_code (tree.Declarator k x) = both 58 (word_number k) (one_text x.text)
label_code (tree.FnDecl x) = listed 59 (one_text x.text)
label_code tree.Module = plain 60
label_code tree.Script = plain 61
label_code (tree.Import s) = listed 62 (one_text s)
label_code (tree.ImportNamed x o) = named 63 x.context (two_texts x.text o)
label_code (tree.ImportDefault x) = named 64 x.context (one_text x.text)
label_code (tree.ImportStar x) = named 65 x.context (one_text x.text)
label_code tree.ExportDecl = plain 66
label_code tree.ExportNamed = plain 67
label_code (tree.ExportSpecifier x o) = named 68 x.context (two_texts x.text o)
label_code (tree.ExportDefaultFn o) = named 69 (optional_context o) (optional_name o)
label_code tree.ExportDefaultExpr = plain 70
