-- The type of nodes whose label is told by their parts.
use Rattle.std.proofs.Common.{◌≡◌, ℕ, Bool, true, false, if◌then◌else◌, List, Some, None, refl}
use Rattle.swc_ast.specs.Tree as tree
use Rattle.swc_ast.specs.Tree.{Name, Tree, node, Forest, ◌⊳◌}
use Rattle.swc_ast.specs.Parts.{lit_tree}
use Rattle.swc_ast.specs.Expressions.{is_eval, unary_node, call_node, update_node, assign_node, member_node, member_tree}
use Rattle.swc_ast.specs.Views.{expr_tree}
use Rattle.swc_ast.specs.declared.Span.{Span}
use Rattle.swc_ast.specs.declared.UnaryOp.{UnaryOp}
use Rattle.swc_ast.specs.declared.UnaryOp.TheVariants as unary
use Rattle.swc_ast.specs.declared.UpdateOp.{UpdateOp}
use Rattle.swc_ast.specs.declared.AssignOp.{AssignOp}
use Rattle.swc_ast.specs.declared.literals.Lit.{Lit}
use Rattle.swc_ast.specs.declared.literals.Lit.TheVariants as lit
use Rattle.swc_ast.specs.declared.expressions.Expr.{Expr}
use Rattle.swc_ast.specs.declared.expressions.AssignTarget.{AssignTarget}
use Rattle.swc_ast.specs.declared.expressions.AssignTarget.TheVariants as target
use Rattle.swc_ast.specs.declared.expressions.MemberExpr.{MemberExpr}
use Rattle.swc_ast.specs.declared.expressions.MemberProp.{MemberProp}
use Rattle.swc_ast.specs.declared.expressions.MemberProp.TheVariants as prop
use Rattle.swc_ast.specs.Meaning.{operator_of}
use Rattle.swc_utils.specs.declared.answers.ValueType.TheVariants.{Num}
use Rattle.swc_utils.specs.Known.{lit_value}
use Rattle.swc_utils.specs.Types.{value_type, unary_type, assign_type, type_of}

type_eval : (mark : ℕ) (x : Name) (b : Bool) (ss rs qs : List Span) (cs ts : Forest) → type_of mark (if b then node (tree.CallEval x) ss ts else node tree.Call rs (node (tree.Read x) qs cs ⊳ ts)) ≡ None
type_eval mark x true ss rs qs cs ts = refl
type_eval mark x false ss rs qs cs ts = refl

pub type-call : (mark : ℕ) (s : Span) (f : Tree) (ts : Forest) → type_of mark (call_node s f ts) ≡ None
unfolding call_node
type-call mark s (node (tree.Dot k) ss cs) ts = refl
type-call mark s (node tree.Index ss cs) ts = refl
type-call mark s (node (tree.Read x) ss cs) ts = type_eval mark x (is_eval x) _ _ _ cs ts
type-call mark s (node l ss cs) ts = refl

type_member : (mark : ℕ) (s : Span) (x : Expr) (p : MemberProp Expr) → type_of mark (member_node expr_tree s x p) ≡ None
type_member mark s x (prop.Ident k) = refl
type_member mark s x (prop.Computed k) = refl

pub type-member : (mark : ℕ) (n : MemberExpr Expr) → type_of mark (member_tree expr_tree n) ≡ None
type-member mark n = type_member mark n.span n.obj.value n.prop

pub type-unary : (mark : ℕ) (op : UnaryOp) (s : Span) (t : Tree) → type_of mark (unary_node op s t) ≡ Some (unary_type op)
unfolding unary_node
type-unary mark unary.TypeOf s (node (tree.Read x) ss cs) = refl
type-unary mark unary.TypeOf s (node l ss cs) = refl
type-unary mark op s t = refl

pub type-update : (mark : ℕ) (o : UpdateOp) (b : Bool) (s : Span) (t : AssignTarget Expr) → type_of mark (update_node expr_tree o b s t) ≡ Some Num
type-update mark o b s (target.Ident n) = refl
type-update mark o b s (target.Member n) = by_prop n.prop
  where
    by_prop : (p : MemberProp Expr) → type_of mark (update_node expr_tree o b s (target.Member (record n { prop = p }))) ≡ Some Num
    by_prop (prop.Ident k) = refl
    by_prop (prop.Computed k) = refl

pub type-assign : (mark : ℕ) (o : AssignOp) (s : Span) (t : AssignTarget Expr) (v : Tree) → type_of mark (assign_node expr_tree o s t v) ≡ assign_type (operator_of o) (type_of mark v)
type-assign mark o s (target.Ident n) v = refl
type-assign mark o s (target.Member n) v = by_prop n.prop
  where
    by_prop : (p : MemberProp Expr) → type_of mark (assign_node expr_tree o s (target.Member (record n { prop = p })) v) ≡ assign_type (operator_of o) (type_of mark v)
    by_prop (prop.Ident k) = refl
    by_prop (prop.Computed k) = refl

pub type-lit : (mark : ℕ) (n : Lit) → type_of mark (lit_tree n) ≡ Some (value_type (lit_value n))
type-lit mark (lit.Str n) = refl
type-lit mark (lit.Bool n) = refl
type-lit mark (lit.Null n) = refl
type-lit mark (lit.Num n) = refl

pub ruleset type_nodes = (
  type-call,
  type-member,
  type-unary,
  type-update,
  type-assign,
  type-lit,
)
