-- Where items stand that go in layers: in a module's own list, or in the body of a wrapper in it.
use Rattle.std.specs.Prelude.{◌≡◌, Bool, true, false, List, [], None}
use Rattle.swc_ast.specs.declared.Span.{Span}
use Rattle.swc_ast.specs.Run.{exported}
use Rattle.swc_ast.specs.Scope.{joined}
use Rattle.swc_ast.specs.Tree.{Label, Fn, Arrow, Params, Body, Call, ExprStmt, Module, Tree, node, Forest, ε, ◌⊳◌}
use Rattle.dce_rules.specs.Uses.{any_eval}

-- A statement that calls a function where it stands: whether that is an arrow or a function without a name, and the spans of its nodes.
pub record Wrapper : Type 0 where
  pub is_arrow : Bool
  pub statement : List Span
  pub call : List Span
  pub function : List Span
  pub params : List Span
  pub body : List Span

abbrev pub function_label : Bool → Label
function_label true = Arrow
function_label false = Fn None

-- the function with a list as its body, without parameters
abbrev pub wrapped_parts : Wrapper → Forest → Forest
wrapped_parts w ts = node Params w.params ε ⊳ node Body w.body ts ⊳ ε

abbrev pub wrapped_function : Wrapper → Forest → Tree
wrapped_function w ts = node (function_label w.is_arrow) w.function (wrapped_parts w ts)

-- its call, without arguments
abbrev pub wrapped_call : Wrapper → Forest → Tree
wrapped_call w ts = node Call w.call (wrapped_function w ts ⊳ ε)

-- the wrapper round a list
abbrev pub wrapped : Wrapper → Forest → Tree
wrapped w ts = node ExprStmt w.statement (wrapped_call w ts ⊳ ε)

-- Where items stand: in the list of a module with some spans, or in a wrapper there, between what stands before it and behind.
pub data Frame : Type 0 where
  own : List Span → Frame
  wrapper : List Span → Forest → Wrapper → Forest → Frame

-- the module with a list there
abbrev pub within : Frame → Forest → Tree
within (own ss) ts = node Module ss ts
within (wrapper ss before w behind) ts = node Module ss (joined before (wrapped w ts ⊳ behind))

-- the module's other items
abbrev pub outer : Frame → Forest
outer (own ss) = ε
outer (wrapper ss before w behind) = joined before behind

-- Items keep the same names in a wrapper as in the module's own list, where none calls `eval` directly and none is an export.
abbrev pub FitsIn : Frame → Forest → Type 0
FitsIn (own ss) ts = Unit {0}
FitsIn (wrapper ss before w behind) ts = (any_eval ts ≡ false) × (exported ts ≡ [])
