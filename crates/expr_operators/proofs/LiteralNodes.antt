-- Number literals and spans at nodes whose label is told by their parts.
use Rattle.std.proofs.Common.{◌≡◌, Bool, true, false, if◌then◌else◌, List, ◌∷◌, Some, None, refl}
use Rattle.swc_ast.specs.Tree as tree
use Rattle.swc_ast.specs.Tree.{Name, Tree, node, Forest, ◌⊳◌}
use Rattle.swc_ast.specs.Expressions.{is_eval, unary_node, call_node, update_node, assign_node, member_node, member_tree}
use Rattle.swc_ast.specs.Redex.{span_of}
use Rattle.swc_ast.specs.Views.{expr_tree}
use Rattle.swc_ast.specs.declared.Span.{Span}
use Rattle.swc_ast.specs.declared.UnaryOp.{UnaryOp}
use Rattle.swc_ast.specs.declared.UnaryOp.TheVariants as unary
use Rattle.swc_ast.specs.declared.UpdateOp.{UpdateOp}
use Rattle.swc_ast.specs.declared.AssignOp.{AssignOp}
use Rattle.swc_ast.specs.declared.expressions.Expr.{Expr}
use Rattle.swc_ast.specs.declared.expressions.AssignTarget.{AssignTarget}
use Rattle.swc_ast.specs.declared.expressions.AssignTarget.TheVariants as target
use Rattle.swc_ast.specs.declared.expressions.MemberExpr.{MemberExpr}
use Rattle.swc_ast.specs.declared.expressions.MemberProp.{MemberProp}
use Rattle.swc_ast.specs.declared.expressions.MemberProp.TheVariants as prop
use Rattle.expr_operators.specs.Literals.{literal_number}

pub number-unary : (op : UnaryOp) (s : Span) (t : Tree) → literal_number (unary_node op s t) ≡ None
unfolding unary_node
number-unary unary.TypeOf s (node (tree.Read x) ss cs) = refl
number-unary unary.TypeOf s (node l ss cs) = refl
number-unary op s t = refl

number_eval : (x : Name) (b : Bool) (ss rs qs : List Span) (cs ts : Forest) → literal_number (if b then node (tree.CallEval x) ss ts else node tree.Call rs (node (tree.Read x) qs cs ⊳ ts)) ≡ None
number_eval x true ss rs qs cs ts = refl
number_eval x false ss rs qs cs ts = refl

pub number-call : (s : Span) (f : Tree) (ts : Forest) → literal_number (call_node s f ts) ≡ None
unfolding call_node
number-call s (node (tree.Dot k) ss cs) ts = refl
number-call s (node tree.Index ss cs) ts = refl
number-call s (node (tree.Read x) ss cs) ts = number_eval x (is_eval x) _ _ _ cs ts
number-call s (node l ss cs) ts = refl

pub number-update : (o : UpdateOp) (b : Bool) (s : Span) (t : AssignTarget Expr) → literal_number (update_node expr_tree o b s t) ≡ None
number-update o b s (target.Ident n) = refl
number-update o b s (target.Member n) = by_prop n.prop
  where
    by_prop : (p : MemberProp Expr) → literal_number (update_node expr_tree o b s (target.Member (record n { prop = p }))) ≡ None
    by_prop (prop.Ident k) = refl
    by_prop (prop.Computed k) = refl

pub number-assign : (o : AssignOp) (s : Span) (t : AssignTarget Expr) (v : Tree) → literal_number (assign_node expr_tree o s t v) ≡ None
number-assign o s (target.Ident n) v = refl
number-assign o s (target.Member n) v = by_prop n.prop
  where
    by_prop : (p : MemberProp Expr) → literal_number (assign_node expr_tree o s (target.Member (record n { prop = p })) v) ≡ None
    by_prop (prop.Ident k) = refl
    by_prop (prop.Computed k) = refl

number_member : (s : Span) (x : Expr) (p : MemberProp Expr) → literal_number (member_node expr_tree s x p) ≡ None
number_member s x (prop.Ident k) = refl
number_member s x (prop.Computed k) = refl

pub number-member : (n : MemberExpr Expr) → literal_number (member_tree expr_tree n) ≡ None
number-member n = number_member n.span n.obj.value n.prop

pub ruleset number_nodes = (
  number-unary,
  number-call,
  number-update,
  number-assign,
  number-member,
)

pub span-unary : (op : UnaryOp) (s : Span) (t : Tree) → span_of (unary_node op s t) ≡ Some s
unfolding unary_node
span-unary unary.TypeOf s (node (tree.Read x) ss cs) = refl
span-unary unary.TypeOf s (node l ss cs) = refl
span-unary op s t = refl

span_eval : (s : Span) (x : Name) (b : Bool) (ss rs qs : List Span) (cs ts : Forest) → span_of (if b then node (tree.CallEval x) (s ∷ ss) ts else node tree.Call (s ∷ rs) (node (tree.Read x) qs cs ⊳ ts)) ≡ Some s
span_eval s x true ss rs qs cs ts = refl
span_eval s x false ss rs qs cs ts = refl

pub span-call : (s : Span) (f : Tree) (ts : Forest) → span_of (call_node s f ts) ≡ Some s
unfolding call_node
span-call s (node (tree.Dot k) ss cs) ts = refl
span-call s (node tree.Index ss cs) ts = refl
span-call s (node (tree.Read x) ss cs) ts = span_eval s x (is_eval x) _ _ _ cs ts
span-call s (node l ss cs) ts = refl

pub span-update : (o : UpdateOp) (b : Bool) (s : Span) (t : AssignTarget Expr) → span_of (update_node expr_tree o b s t) ≡ Some s
span-update o b s (target.Ident n) = refl
span-update o b s (target.Member n) = by_prop n.prop
  where
    by_prop : (p : MemberProp Expr) → span_of (update_node expr_tree o b s (target.Member (record n { prop = p }))) ≡ Some s
    by_prop (prop.Ident k) = refl
    by_prop (prop.Computed k) = refl

pub span-assign : (o : AssignOp) (s : Span) (t : AssignTarget Expr) (v : Tree) → span_of (assign_node expr_tree o s t v) ≡ Some s
span-assign o s (target.Ident n) v = refl
span-assign o s (target.Member n) v = by_prop n.prop
  where
    by_prop : (p : MemberProp Expr) → span_of (assign_node expr_tree o s (target.Member (record n { prop = p })) v) ≡ Some s
    by_prop (prop.Ident k) = refl
    by_prop (prop.Computed k) = refl

span_member : (s : Span) (x : Expr) (p : MemberProp Expr) → span_of (member_node expr_tree s x p) ≡ Some s
span_member s x (prop.Ident k) = refl
span_member s x (prop.Computed k) = refl

pub span-member : (n : MemberExpr Expr) → span_of (member_tree expr_tree n) ≡ Some n.span
span-member n = span_member n.span n.obj.value n.prop

pub ruleset span_nodes = (
  span-unary,
  span-call,
  span-update,
  span-assign,
  span-member,
)
