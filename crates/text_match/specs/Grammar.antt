-- The syntax of expressions: from which place of a text to which a tree is written (ECMA-262, 13). A production has the number of
-- ECMA-262's that it belongs to: 0 Expression, 1 AssignmentExpression, 2 ConditionalExpression, 3 CoalesceExpression,
-- 4 LogicalORExpression, 5 to 14 those down to ExponentiationExpression, 15 UnaryExpression, 16 UpdateExpression, 17 CallExpression,
-- 18 MemberExpression, 19 PrimaryExpression.
use Rattle.std.specs.Prelude.{ℕ, ◌≡◌, ◌≤◌, ◌||◌, not, Bool, true, false, List, codes, pos, [], ◌∷◌, bytes_eq}
use Rattle.swc_ast.specs.declared.Span.{Span}
use Rattle.swc_ast.specs.declared.UnaryOp.{UnaryOp}
use Rattle.swc_ast.specs.declared.UnaryOp.TheVariants as uop
use Rattle.swc_ast.specs.declared.BinaryOp.{BinaryOp}
use Rattle.swc_ast.specs.declared.BinaryOp.TheVariants as bop
use Rattle.swc_ast.specs.declared.UpdateOp.{UpdateOp}
use Rattle.swc_ast.specs.declared.UpdateOp.TheVariants as vop
use Rattle.swc_ast.specs.declared.AssignOp.{AssignOp}
use Rattle.swc_ast.specs.declared.AssignOp.TheVariants as aop
use Rattle.swc_ast.specs.declared.expressions.Expr.{Expr}
use Rattle.swc_ast.specs.declared.expressions.AssignTarget.{AssignTarget}
use Rattle.swc_ast.specs.declared.expressions.AssignTarget.TheVariants as in_target
use Rattle.swc_ast.specs.Tree.{Text, Name, Key, NameKey, TextKey, NumberKey, ItemKind, Plain, Spread, Hole, NumLit, StrLit, BoolLit, NullLit, This, Read, Binary, Cond, Seq, Dot, Index, Template, Array, Object, SpreadRecord, KeyValue, Shorthand, PlainKey, ComputedKey, New, Tree, node, Forest, ε, ◌⊳◌}
use Rattle.swc_ast.specs.Expressions.{unary_node, call_node, update_node, assign_node, target_tree}
use Rattle.swc_ast.specs.Views.{expr_tree}
use Rattle.text_tokens.specs.Lines.{Blanks, Ahead}
use Rattle.text_tokens.specs.Tokens as token
use Rattle.text_tokens.specs.Tokens.{Word, Identifier, Sign, Number}
use Rattle.text_tokens.specs.Texts.{Quoted, TemplateText}

-- an operator that is a word, or a sign
abbrev pub Operator : Bool → List ℕ → List ℕ → List ℕ → Type 0
Operator true w b e = Word w b e
Operator false s b e = Sign s b e

-- the text of an operator in front of its operand (13.5)
abbrev pub unary_text : UnaryOp → List ℕ
unary_text uop.Minus = codes "-"
unary_text uop.Plus = codes "+"
unary_text uop.Bang = codes "!"
unary_text uop.Tilde = codes "~"
unary_text uop.TypeOf = codes "typeof"
unary_text uop.Void = codes "void"
unary_text uop.Delete = codes "delete"

abbrev pub unary_is_word : UnaryOp → Bool
unary_is_word uop.Minus = false
unary_is_word uop.Plus = false
unary_is_word uop.Bang = false
unary_is_word uop.Tilde = false
unary_is_word uop.TypeOf = true
unary_is_word uop.Void = true
unary_is_word uop.Delete = true

-- the text of an operator between its operands (13.6 to 13.13)
abbrev pub binary_text : BinaryOp → List ℕ
binary_text bop.NullishCoalescing = codes "??"
binary_text bop.LogicalOr = codes "||"
binary_text bop.LogicalAnd = codes "&&"
binary_text bop.BitOr = codes "|"
binary_text bop.BitXor = codes "^"
binary_text bop.BitAnd = codes "&"
binary_text bop.EqEq = codes "=="
binary_text bop.NotEq = codes "!="
binary_text bop.EqEqEq = codes "==="
binary_text bop.NotEqEq = codes "!=="
binary_text bop.Lt = codes "<"
binary_text bop.LtEq = codes "<="
binary_text bop.Gt = codes ">"
binary_text bop.GtEq = codes ">="
binary_text bop.In = codes "in"
binary_text bop.InstanceOf = codes "instanceof"
binary_text bop.LShift = codes "<<"
binary_text bop.RShift = codes ">>"
binary_text bop.ZeroFillRShift = codes ">>>"
binary_text bop.Add = codes "+"
binary_text bop.Sub = codes "-"
binary_text bop.Mul = codes "*"
binary_text bop.Div = codes "/"
binary_text bop.Mod = codes "%"
binary_text bop.Exp = codes "**"

abbrev pub binary_is_word : BinaryOp → Bool
binary_is_word bop.In = true
binary_is_word bop.InstanceOf = true
binary_is_word _ = false

-- the production of an operator
abbrev pub strength : BinaryOp → ℕ
strength bop.NullishCoalescing = 3
strength bop.LogicalOr = 4
strength bop.LogicalAnd = 5
strength bop.BitOr = 6
strength bop.BitXor = 7
strength bop.BitAnd = 8
strength bop.EqEq = 9
strength bop.NotEq = 9
strength bop.EqEqEq = 9
strength bop.NotEqEq = 9
strength bop.Lt = 10
strength bop.LtEq = 10
strength bop.Gt = 10
strength bop.GtEq = 10
strength bop.In = 10
strength bop.InstanceOf = 10
strength bop.LShift = 11
strength bop.RShift = 11
strength bop.ZeroFillRShift = 11
strength bop.Add = 12
strength bop.Sub = 12
strength bop.Mul = 13
strength bop.Div = 13
strength bop.Mod = 13
strength bop.Exp = 14

-- Which productions may stand as its left operand: those that bind as tightly or more. But a bare `||` or `&&` doesn't stand beside
-- `??`, and in front of `**` no bare operator stands.
abbrev pub left_least : BinaryOp → ℕ
left_least bop.NullishCoalescing = 6
left_least bop.Exp = 16
left_least op = strength op

-- and as its right one: those that bind more tightly, but `**` itself behind `**`
abbrev pub right_least : BinaryOp → ℕ
right_least bop.NullishCoalescing = 6
right_least bop.Exp = 14
right_least bop.LogicalOr = 5
right_least bop.LogicalAnd = 6
right_least bop.BitOr = 7
right_least bop.BitXor = 8
right_least bop.BitAnd = 9
right_least bop.EqEq = 10
right_least bop.NotEq = 10
right_least bop.EqEqEq = 10
right_least bop.NotEqEq = 10
right_least bop.Lt = 11
right_least bop.LtEq = 11
right_least bop.Gt = 11
right_least bop.GtEq = 11
right_least bop.In = 11
right_least bop.InstanceOf = 11
right_least bop.LShift = 12
right_least bop.RShift = 12
right_least bop.ZeroFillRShift = 12
right_least bop.Add = 13
right_least bop.Sub = 13
right_least bop.Mul = 14
right_least bop.Div = 14
right_least bop.Mod = 14

-- `++`, `--`
abbrev pub update_text : UpdateOp → List ℕ
update_text vop.PlusPlus = codes "++"
update_text vop.MinusMinus = codes "--"

-- the text of an assignment's operator (13.15)
abbrev pub assign_text : AssignOp → List ℕ
assign_text aop.Assign = codes "="
assign_text aop.AddAssign = codes "+="
assign_text aop.SubAssign = codes "-="
assign_text aop.MulAssign = codes "*="
assign_text aop.DivAssign = codes "/="
assign_text aop.ModAssign = codes "%="
assign_text aop.ExpAssign = codes "**="
assign_text aop.LShiftAssign = codes "<<="
assign_text aop.RShiftAssign = codes ">>="
assign_text aop.ZeroFillRShiftAssign = codes ">>>="
assign_text aop.BitOrAssign = codes "|="
assign_text aop.BitXorAssign = codes "^="
assign_text aop.BitAndAssign = codes "&="
assign_text aop.AndAssign = codes "&&="
assign_text aop.OrAssign = codes "||="
assign_text aop.NullishAssign = codes "??="

-- what strict code may write to: no `eval` and no `arguments` (13.15.1, 8.6.4)
abbrev pub is_writable : AssignTarget Expr → Bool
is_writable (in_target.Ident x) = not (bytes_eq x.sym (codes "eval") || bytes_eq x.sym (codes "arguments"))
is_writable (in_target.Member m) = true

-- strict code doesn't delete a name, bare or in parentheses (13.5.1.1)
abbrev pub has_operand : UnaryOp → Tree → Bool
has_operand uop.Delete (node (Read x) ss ts) = false
has_operand op t = true

-- a key that isn't computed (13.2.5, LiteralPropertyName)
pub data KeyText : Key → List ℕ → List ℕ → Type 0 where
  name_key : {k : Text} {b e : List ℕ} → token.Name k b e → KeyText (NameKey k) b e
  text_key : {k : Text} {b e : List ℕ} → Quoted k b e → KeyText (TextKey k) b e
  number_key : {n : ℕ} {b e : List ℕ} → Number n b e → KeyText (NumberKey (pos n)) b e

mutual
  -- a tree where what stands bare has to be of this production or a later one; in parentheses each may stand
  pub data Written : ℕ → Tree → List ℕ → List ℕ → Type 0 where
    bare : {least n : ℕ} {t : Tree} {b e : List ℕ} → Bare n t b e → least ≤ n → Written least t b e
    wrapped : {least : ℕ} {t : Tree} {b c d e : List ℕ} → Sign (codes "(") b c → Written 0 t c d → Sign (codes ")") d e → Written least t b e

  -- a tree by a production, without parentheses round it
  pub data Bare : ℕ → Tree → List ℕ → List ℕ → Type 0 where
    name : {x : Name} {ss : List Span} {b e : List ℕ} → Identifier x.text b e → Bare 19 (node (Read x) ss ε) b e
    number : {n : ℕ} {ss : List Span} {b e : List ℕ} → Number n b e → Bare 19 (node (NumLit (pos n)) ss ε) b e
    this : {ss : List Span} {b e : List ℕ} → Word (codes "this") b e → Bare 19 (node This ss ε) b e
    null : {ss : List Span} {b e : List ℕ} → Word (codes "null") b e → Bare 19 (node NullLit ss ε) b e
    yes : {ss : List Span} {b e : List ℕ} → Word (codes "true") b e → Bare 19 (node (BoolLit true) ss ε) b e
    no : {ss : List Span} {b e : List ℕ} → Word (codes "false") b e → Bare 19 (node (BoolLit false) ss ε) b e
    string : {v : Text} {ss : List Span} {b e : List ℕ} → Quoted v b e → Bare 19 (node (StrLit v) ss ε) b e
    template : {qs : List (Text × Bool)} {ss : List Span} {ts : Forest} {b c e : List ℕ} → Sign (codes "`") b c → Parts qs ts c e → Bare 19 (node (Template qs) ss ts) b e
    array : {ks : List ItemKind} {ss : List Span} {ts : Forest} {b c e : List ℕ} → Sign (codes "[") b c → Items ks ts c e → Bare 19 (node (Array ks) ss ts) b e
    object : {ss : List Span} {ts : Forest} {b c e : List ℕ} → Sign (codes "{") b c → Properties ts c e → Bare 19 (node Object ss ts) b e
    -- a member of what is no call binds as tightly as that
    dot : {m : ℕ} {k : Text} {ss : List Span} {t : Tree} {b c d e : List ℕ} → 17 ≤ m → m ≤ 18 → Written m t b c → Sign (codes ".") c d → token.Name k d e → Bare m (node (Dot k) ss (t ⊳ ε)) b e
    index : {m : ℕ} {ss : List Span} {t k : Tree} {b c d f e : List ℕ} → 17 ≤ m → m ≤ 18 → Written m t b c → Sign (codes "[") c d → Written 0 k d f → Sign (codes "]") f e → Bare m (node Index ss (t ⊳ k ⊳ ε)) b e
    unary : (op : UnaryOp) (s : Span) (t : Tree) {b c e : List ℕ} → Operator (unary_is_word op) (unary_text op) b c → Written 15 t c e → has_operand op t ≡ true → Bare 15 (unary_node op s t) b e
    binary : {op : BinaryOp} {ss : List Span} {t u : Tree} {b c d e : List ℕ} → Written (left_least op) t b c → Operator (binary_is_word op) (binary_text op) c d → Written (right_least op) u d e → Bare (strength op) (node (Binary op) ss (t ⊳ u ⊳ ε)) b e
    -- `a ?? b ?? c`
    coalesce : {ss : List Span} {t u : Tree} {b c d e : List ℕ} → Bare 3 t b c → Sign (codes "??") c d → Written 6 u d e → Bare 3 (node (Binary bop.NullishCoalescing) ss (t ⊳ u ⊳ ε)) b e
    -- `++a`, and `a++` without a line end between (13.4)
    update_before : (o : UpdateOp) (s : Span) (g : AssignTarget Expr) {b c e : List ℕ} → Sign (update_text o) b c → Target g c e → Bare 16 (update_node expr_tree o true s g) b e
    update_behind : (o : UpdateOp) (s : Span) (g : AssignTarget Expr) {b c d e : List ℕ} → Target g b c → Ahead false c d → Sign (update_text o) d e → Bare 16 (update_node expr_tree o false s g) b e
    assign : (o : AssignOp) (s : Span) (g : AssignTarget Expr) (v : Tree) {b c d e : List ℕ} → Target g b c → Sign (assign_text o) c d → Written 1 v d e → Bare 1 (assign_node expr_tree o s g v) b e
    -- `new F(a)`, and `new F`
    new_with : {ss : List Span} {t : Tree} {ts : Forest} {b c d e : List ℕ} → Word (codes "new") b c → Written 18 t c d → Arguments ts d e → Bare 18 (node New ss (t ⊳ ts)) b e
    new_alone : {ss : List Span} {t : Tree} {b c e : List ℕ} → Word (codes "new") b c → Written 18 t c e → Bare 16 (node New ss (t ⊳ ε)) b e
    cond : {ss : List Span} {t u v : Tree} {b c d f g e : List ℕ} → Written 3 t b c → Sign (codes "?") c d → Written 1 u d f → Sign (codes ":") f g → Written 1 v g e → Bare 2 (node Cond ss (t ⊳ u ⊳ v ⊳ ε)) b e
    seq : {ss : List Span} {ts : Forest} {b e : List ℕ} → Row ts b e → Bare 0 (node Seq ss ts) b e
    call : (s : Span) (t : Tree) (ts : Forest) {b c e : List ℕ} → Written 17 t b c → Arguments ts c e → Bare 17 (call_node s t ts) b e

  -- what is written to: a name or a member, bare or in parentheses (13.15.1)
  pub data Target : AssignTarget Expr → List ℕ → List ℕ → Type 0 where
    target : (g : AssignTarget Expr) {b e : List ℕ} → Written 17 (target_tree expr_tree g) b e → is_writable g ≡ true → Target g b e

  -- the texts of a template and the expressions between them, behind the first quote (13.2.8)
  pub data Parts : List (Text × Bool) → Forest → List ℕ → List ℕ → Type 0 where
    last_part : {v : Text} {b e : List ℕ} → TemplateText true v b e → Parts ((v, true) ∷ []) ε b e
    part : {v : Text} {qs : List (Text × Bool)} {t : Tree} {ts : Forest} {b c d f e : List ℕ} → TemplateText false v b c → Written 0 t c d → Sign (codes "}") d f → Parts qs ts f e → Parts ((v, false) ∷ qs) (t ⊳ ts) b e

  -- an item of an array
  pub data Item : ItemKind → Tree → List ℕ → List ℕ → Type 0 where
    plain_item : {t : Tree} {b e : List ℕ} → Written 1 t b e → Item Plain t b e
    spread_item : {t : Tree} {b c e : List ℕ} → Sign (codes "...") b c → Written 1 t c e → Item Spread t b e

  -- the items of an array with its closing bracket: a comma behind each, but maybe the last that is no hole (13.2.4)
  pub data Items : List ItemKind → Forest → List ℕ → List ℕ → Type 0 where
    no_items : {b e : List ℕ} → Sign (codes "]") b e → Items [] ε b e
    hole : {ks : List ItemKind} {ts : Forest} {b c e : List ℕ} → Sign (codes ",") b c → Items ks ts c e → Items (Hole ∷ ks) ts b e
    item : {k : ItemKind} {ks : List ItemKind} {t : Tree} {ts : Forest} {b c d e : List ℕ} → Item k t b c → Sign (codes ",") c d → Items ks ts d e → Items (k ∷ ks) (t ⊳ ts) b e
    last_item : {k : ItemKind} {t : Tree} {b c e : List ℕ} → Item k t b c → Sign (codes "]") c e → Items (k ∷ []) (t ⊳ ε) b e

  -- a property of an object but a method (13.2.5)
  pub data Property : Tree → List ℕ → List ℕ → Type 0 where
    shorthand : {x : Name} {ss : List Span} {b e : List ℕ} → Identifier x.text b e → Property (node (Shorthand x) ss ε) b e
    spread : {ss : List Span} {t : Tree} {b c e : List ℕ} → Sign (codes "...") b c → Written 1 t c e → Property (node SpreadRecord ss (t ⊳ ε)) b e
    key_value : {k : Key} {ss rs : List Span} {t : Tree} {b c e : List ℕ} → KeyText k b c → Value t c e → Property (node KeyValue ss (node (PlainKey k) rs ε ⊳ t ⊳ ε)) b e
    computed : {ss rs : List Span} {k t : Tree} {b c d f e : List ℕ} → Sign (codes "[") b c → Written 1 k c d → Sign (codes "]") d f → Value t f e → Property (node KeyValue ss (node ComputedKey rs (k ⊳ ε) ⊳ t ⊳ ε)) b e

  -- the value of a property behind its colon
  pub data Value : Tree → List ℕ → List ℕ → Type 0 where
    value : {t : Tree} {b c e : List ℕ} → Sign (codes ":") b c → Written 1 t c e → Value t b e

  -- the properties of an object with its closing brace: a comma behind each, but maybe the last
  pub data Properties : Forest → List ℕ → List ℕ → Type 0 where
    no_properties : {b e : List ℕ} → Sign (codes "}") b e → Properties ε b e
    property : {t : Tree} {ts : Forest} {b c d e : List ℕ} → Property t b c → Sign (codes ",") c d → Properties ts d e → Properties (t ⊳ ts) b e
    last_property : {t : Tree} {b c e : List ℕ} → Property t b c → Sign (codes "}") c e → Properties (t ⊳ ε) b e

  -- expressions with commas between them
  pub data Row : Forest → List ℕ → List ℕ → Type 0 where
    row : {t : Tree} {ts : Forest} {b c e : List ℕ} → Written 1 t b c → Others ts c e → Row (t ⊳ ts) b e

  -- expressions, each behind a comma
  pub data Others : Forest → List ℕ → List ℕ → Type 0 where
    no_others : {b : List ℕ} → Others ε b b
    other : {t : Tree} {ts : Forest} {b c d e : List ℕ} → Sign (codes ",") b c → Written 1 t c d → Others ts d e → Others (t ⊳ ts) b e

  -- the arguments of a call
  pub data Arguments : Forest → List ℕ → List ℕ → Type 0 where
    no_arguments : {b c e : List ℕ} → Sign (codes "(") b c → Sign (codes ")") c e → Arguments ε b e
    arguments : {ts : Forest} {b c d e : List ℕ} → Sign (codes "(") b c → Row ts c d → Sign (codes ")") d e → Arguments ts b e
    with_comma : {ts : Forest} {b c d f e : List ℕ} → Sign (codes "(") b c → Row ts c d → Sign (codes ",") d f → Sign (codes ")") f e → Arguments ts b e

-- a text that is the text of an expression, with blanks round it
pub record IsExpressionText (t : Tree) (text : List ℕ) : Type 0 where
  pub behind : List ℕ
  pub written : Written 0 t text behind
  pub blank : Blanks behind []
