-- What a node is, beside its children, by sorts: which labels may stand where. Comments list the children.
use Rattle.std.specs.Prelude.{ℕ, ℤ, Bool, ◌&&◌, ◌==◌, bytes_eq, List, Option}
use Rattle.swc_ast.specs.declared.Span.{Span}
use Rattle.swc_ast.specs.declared.UnaryOp.{UnaryOp}
use Rattle.swc_ast.specs.declared.UpdateOp.{UpdateOp}
use Rattle.swc_ast.specs.declared.BinaryOp.{BinaryOp}
use Rattle.swc_ast.specs.declared.AssignOp.{AssignOp}
use Rattle.swc_ast.specs.declared.VarDeclKind.{VarDeclKind}

-- bytes of UTF-8
abbrev pub Text : Type 0
Text = List ℕ

-- A name: its text, and the context that tells names of one text apart.
pub record Name : Type 0 where
  pub text : Text
  pub context : ℕ

-- whether two names are one: their texts and their contexts are
abbrev pub same_name : Name → Name → Bool
same_name a b = bytes_eq a.text b.text && (a.context == b.context)

-- a property's key as it was written
pub data Key : Type 0 where
  NameKey TextKey : Text → Key
  NumberKey : ℤ → Key

-- an item of an array
pub data ItemKind : Type 0 where
  Plain Spread Hole : ItemKind

-- an expression
pub data ExprLabel : Type 0 where
  NumLit : ℤ → ExprLabel
  StrLit : Text → ExprLabel
  BoolLit : Bool → ExprLabel
  NullLit : ExprLabel
  This : ExprLabel
  Invalid : ExprLabel
  Read : Name → ExprLabel
  -- expressions, one fewer than the texts, each with its `tail`
  Template : List (Text × Bool) → ExprLabel
  -- the items that are no holes
  Array : List ItemKind → ExprLabel
  -- properties: KeyValue, Shorthand, Method, SpreadRecord
  Object : ExprLabel
  -- Params, Body
  Fn : Option Name → ExprLabel
  -- Params, Body or an expression
  Arrow : ExprLabel
  Unary : UnaryOp → ExprLabel
  TypeOfName : Name → ExprLabel
  Binary : BinaryOp → ExprLabel
  Cond : ExprLabel
  Seq : ExprLabel
  -- the object; the object and the key
  Dot : Text → ExprLabel
  Index : ExprLabel
  -- the callee and the arguments
  Call : ExprLabel
  New : ExprLabel
  -- the arguments of a call by the name `eval`
  CallEval : Name → ExprLabel
  -- the object, the key where it is computed, and the arguments
  CallDot : Text → ExprLabel
  CallIndex : ExprLabel
  -- the value
  Assign : AssignOp → Name → ExprLabel
  -- the object, the key where it is computed, and the value
  AssignDot : AssignOp → Text → ExprLabel
  AssignIndex : AssignOp → ExprLabel
  -- nothing; the object; the object and the key. The truth value says whether the operator stands in front
  Update : UpdateOp → Bool → Name → ExprLabel
  UpdateDot : UpdateOp → Bool → Text → ExprLabel
  UpdateIndex : UpdateOp → Bool → ExprLabel

-- a part of an object literal: a property or a key
pub data PropLabel : Type 0 where
  SpreadRecord : PropLabel
  -- key, value
  KeyValue : PropLabel
  Shorthand : Name → PropLabel
  -- key, Params, Body
  Method : PropLabel
  PlainKey : Key → PropLabel
  ComputedKey : PropLabel

-- a part that its parent looks for
pub data PartLabel : Type 0 where
  Params : PartLabel
  Body : PartLabel
  -- none, or the default
  Param : Name → PartLabel
  Absent : PartLabel
  CaseBody : PartLabel
  -- none, or the first value
  Declarator : VarDeclKind → Name → PartLabel

-- a statement that holds no statement
pub data SimpleLabel : Type 0 where
  Empty : SimpleLabel
  Throw : SimpleLabel
  ExprStmt : SimpleLabel
  -- the expression, if any
  Return : SimpleLabel
  Break : Option Text → SimpleLabel
  Continue : Option Text → SimpleLabel

-- a statement that holds statements
pub data HolderLabel : Type 0 where
  Block : HolderLabel
  -- test, consequent, and the alternative, if any
  If : HolderLabel
  -- test, body; body, test
  While : HolderLabel
  DoWhile : HolderLabel
  -- first part, test, update, body
  For : HolderLabel
  Labeled : Text → HolderLabel
  -- the discriminant, and for each case its test (Absent for `default`, where the truth value is true) and its CaseBody
  Switch : List Bool → HolderLabel
  -- the block, the handler's block, the final block; the label has the handler, if any, with its parameter, if any
  Try : Option (Option Name) → HolderLabel

-- a declaration
pub data DeclLabel : Type 0 where
  -- declarators
  VarDecl : VarDeclKind → DeclLabel
  -- Params, Body
  FnDecl : Name → DeclLabel

-- a module or a script, an item of a module, and a specifier
pub data ItemLabel : Type 0 where
  Module : ItemLabel
  Script : ItemLabel
  -- specifiers
  Import : Text → ItemLabel
  ImportNamed : Name → Option Text → ItemLabel
  ImportDefault : Name → ItemLabel
  ImportStar : Name → ItemLabel
  -- a declaration
  ExportDecl : ItemLabel
  -- specifiers
  ExportNamed : ItemLabel
  ExportSpecifier : Name → Option Text → ItemLabel
  -- Params, Body
  ExportDefaultFn : Option Name → ItemLabel
  ExportDefaultExpr : ItemLabel
