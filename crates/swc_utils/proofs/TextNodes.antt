-- The text of nodes whose label is told by their parts.
use Rattle.std.proofs.Common.{◌≡◌, ℕ, Bool, true, false, if◌then◌else◌, List, None, refl}
use Rattle.swc_ast.specs.Tree as tree
use Rattle.swc_ast.specs.Tree.{Name, Tree, node, Forest, ◌⊳◌}
use Rattle.swc_ast.specs.Parts.{lit_tree}
use Rattle.swc_ast.specs.Expressions.{is_eval, unary_node, call_node, update_node, assign_node, member_node, member_tree}
use Rattle.swc_ast.specs.Views.{expr_tree}
use Rattle.swc_ast.specs.declared.Span.{Span}
use Rattle.swc_ast.specs.declared.UnaryOp.{UnaryOp}
use Rattle.swc_ast.specs.declared.UnaryOp.TheVariants as unary
use Rattle.swc_ast.specs.declared.UpdateOp.{UpdateOp}
use Rattle.swc_ast.specs.declared.AssignOp.{AssignOp}
use Rattle.swc_ast.specs.declared.literals.Lit.{Lit}
use Rattle.swc_ast.specs.declared.literals.Lit.TheVariants as lit
use Rattle.swc_ast.specs.declared.expressions.Expr.{Expr}
use Rattle.swc_ast.specs.declared.expressions.AssignTarget.{AssignTarget}
use Rattle.swc_ast.specs.declared.expressions.AssignTarget.TheVariants as target
use Rattle.swc_ast.specs.declared.expressions.MemberExpr.{MemberExpr}
use Rattle.swc_ast.specs.declared.expressions.MemberProp.{MemberProp}
use Rattle.swc_ast.specs.declared.expressions.MemberProp.TheVariants as prop
use Rattle.swc_ast.specs.Operators.{to_text}
use Rattle.swc_utils.specs.Pure.{pure}
use Rattle.swc_utils.specs.Known.{lit_value, of_value, unary_known, truth, text}

text_eval : (mark : ℕ) (x : Name) (b : Bool) (ss rs qs : List Span) (cs ts : Forest) → text mark (if b then node (tree.CallEval x) ss ts else node tree.Call rs (node (tree.Read x) qs cs ⊳ ts)) ≡ None
text_eval mark x true ss rs qs cs ts = refl
text_eval mark x false ss rs qs cs ts = refl

pub text-call : (mark : ℕ) (s : Span) (f : Tree) (ts : Forest) → text mark (call_node s f ts) ≡ None
unfolding call_node
text-call mark s (node (tree.Dot k) ss cs) ts = refl
text-call mark s (node tree.Index ss cs) ts = refl
text-call mark s (node (tree.Read x) ss cs) ts = text_eval mark x (is_eval x) _ _ _ cs ts
text-call mark s (node l ss cs) ts = refl

pub text-update : (mark : ℕ) (o : UpdateOp) (b : Bool) (s : Span) (t : AssignTarget Expr) → text mark (update_node expr_tree o b s t) ≡ None
text-update mark o b s (target.Ident n) = refl
text-update mark o b s (target.Member n) = by_prop n.prop
  where
    by_prop : (p : MemberProp Expr) → text mark (update_node expr_tree o b s (target.Member (record n { prop = p }))) ≡ None
    by_prop (prop.Ident k) = refl
    by_prop (prop.Computed k) = refl

pub text-assign : (mark : ℕ) (o : AssignOp) (s : Span) (t : AssignTarget Expr) (v : Tree) → text mark (assign_node expr_tree o s t v) ≡ None
text-assign mark o s (target.Ident n) v = refl
text-assign mark o s (target.Member n) v = by_prop n.prop
  where
    by_prop : (p : MemberProp Expr) → text mark (assign_node expr_tree o s (target.Member (record n { prop = p })) v) ≡ None
    by_prop (prop.Ident k) = refl
    by_prop (prop.Computed k) = refl

text_member : (mark : ℕ) (s : Span) (x : Expr) (p : MemberProp Expr) → text mark (member_node expr_tree s x p) ≡ None
text_member mark s x (prop.Ident k) = refl
text_member mark s x (prop.Computed k) = refl

pub text-member : (mark : ℕ) (n : MemberExpr Expr) → text mark (member_tree expr_tree n) ≡ None
text-member mark n = text_member mark n.span n.obj.value n.prop

pub text-unary : (mark : ℕ) (op : UnaryOp) (s : Span) (t : Tree) → text mark (unary_node op s t) ≡ of_value to_text (unary_known op (pure mark t) (truth mark t))
unfolding unary_node
text-unary mark unary.TypeOf s (node (tree.Read x) ss cs) = refl
text-unary mark unary.TypeOf s (node l ss cs) = refl
text-unary mark op s t = refl

pub text-lit : (mark : ℕ) (n : Lit) → text mark (lit_tree n) ≡ to_text (lit_value n)
text-lit mark (lit.Str n) = refl
text-lit mark (lit.Bool n) = refl
text-lit mark (lit.Null n) = refl
text-lit mark (lit.Num n) = refl

pub ruleset text_nodes = (
  text-call,
  text-update,
  text-assign,
  text-member,
  text-unary,
  text-lit,
)
