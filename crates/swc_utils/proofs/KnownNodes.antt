-- What is known of nodes whose label is told by their parts.
use Rattle.std.proofs.Common.{◌≡◌, ℕ, Bool, true, false, if◌then◌else◌, List, Some, None, refl}
use Rattle.swc_ast.specs.Tree as tree
use Rattle.swc_ast.specs.Tree.{Name, Tree, node, Forest, ◌⊳◌}
use Rattle.swc_ast.specs.Parts.{lit_tree}
use Rattle.swc_ast.specs.Expressions.{is_eval, unary_node, call_node, update_node, assign_node, member_node, member_tree}
use Rattle.swc_ast.specs.Views.{expr_tree}
use Rattle.swc_ast.specs.declared.Span.{Span}
use Rattle.swc_ast.specs.declared.UnaryOp.{UnaryOp}
use Rattle.swc_ast.specs.declared.UnaryOp.TheVariants as unary
use Rattle.swc_ast.specs.declared.UpdateOp.{UpdateOp}
use Rattle.swc_ast.specs.declared.AssignOp.{AssignOp}
use Rattle.swc_ast.specs.declared.literals.Lit.{Lit}
use Rattle.swc_ast.specs.declared.literals.Lit.TheVariants as lit
use Rattle.swc_ast.specs.declared.expressions.Expr.{Expr}
use Rattle.swc_ast.specs.declared.expressions.AssignTarget.{AssignTarget}
use Rattle.swc_ast.specs.declared.expressions.AssignTarget.TheVariants as target
use Rattle.swc_ast.specs.declared.expressions.MemberExpr.{MemberExpr}
use Rattle.swc_ast.specs.declared.expressions.MemberProp.{MemberProp}
use Rattle.swc_ast.specs.declared.expressions.MemberProp.TheVariants as prop
use Rattle.swc_ast.specs.declared.AssignOp.TheVariants.{Assign}
use Rattle.swc_ast.specs.Operators.{truthy, to_number}
use Rattle.swc_utils.specs.Pure.{pure}
use Rattle.swc_utils.specs.Known.{lit_value, unary_known, unary_number, unary_truth, assign_truth, truth, number}

truth_eval : (mark : ℕ) (x : Name) (b : Bool) (ss rs qs : List Span) (cs ts : Forest) → truth mark (if b then node (tree.CallEval x) ss ts else node tree.Call rs (node (tree.Read x) qs cs ⊳ ts)) ≡ None
truth_eval mark x true ss rs qs cs ts = refl
truth_eval mark x false ss rs qs cs ts = refl

pub truth-call : (mark : ℕ) (s : Span) (f : Tree) (ts : Forest) → truth mark (call_node s f ts) ≡ None
unfolding call_node
truth-call mark s (node (tree.Dot k) ss cs) ts = refl
truth-call mark s (node tree.Index ss cs) ts = refl
truth-call mark s (node (tree.Read x) ss cs) ts = truth_eval mark x (is_eval x) _ _ _ cs ts
truth-call mark s (node l ss cs) ts = refl

pub truth-update : (mark : ℕ) (o : UpdateOp) (b : Bool) (s : Span) (t : AssignTarget Expr) → truth mark (update_node expr_tree o b s t) ≡ None
truth-update mark o b s (target.Ident n) = refl
truth-update mark o b s (target.Member n) = by_prop n.prop
  where
    by_prop : (p : MemberProp Expr) → truth mark (update_node expr_tree o b s (target.Member (record n { prop = p }))) ≡ None
    by_prop (prop.Ident k) = refl
    by_prop (prop.Computed k) = refl

truth_member : (mark : ℕ) (s : Span) (x : Expr) (p : MemberProp Expr) → truth mark (member_node expr_tree s x p) ≡ None
truth_member mark s x (prop.Ident k) = refl
truth_member mark s x (prop.Computed k) = refl

pub truth-member : (mark : ℕ) (n : MemberExpr Expr) → truth mark (member_tree expr_tree n) ≡ None
truth-member mark n = truth_member mark n.span n.obj.value n.prop

pub truth-unary : (mark : ℕ) (op : UnaryOp) (s : Span) (t : Tree) → truth mark (unary_node op s t) ≡ unary_truth op (truth mark t) (number mark t)
unfolding unary_node
truth-unary mark unary.TypeOf s (node (tree.Read x) ss cs) = refl
truth-unary mark unary.TypeOf s (node l ss cs) = refl
truth-unary mark op s t = refl

pub truth-assign : (mark : ℕ) (o : AssignOp) (s : Span) (t : AssignTarget Expr) (v : Tree) → truth mark (assign_node expr_tree o s t v) ≡ assign_truth o (truth mark v)
truth-assign mark o s (target.Ident n) v = by_op o
  where
    by_op : (o : AssignOp) → truth mark (assign_node expr_tree o s (target.Ident n) v) ≡ assign_truth o (truth mark v)
    by_op Assign = refl
    by_op o = refl
truth-assign mark o s (target.Member n) v = by_prop n.prop o
  where
    by_prop : (p : MemberProp Expr) (o : AssignOp) → truth mark (assign_node expr_tree o s (target.Member (record n { prop = p })) v) ≡ assign_truth o (truth mark v)
    by_prop (prop.Ident k) Assign = refl
    by_prop (prop.Ident k) o = refl
    by_prop (prop.Computed k) Assign = refl
    by_prop (prop.Computed k) o = refl

pub truth-lit : (mark : ℕ) (n : Lit) → truth mark (lit_tree n) ≡ Some (truthy (lit_value n))
truth-lit mark (lit.Str n) = refl
truth-lit mark (lit.Bool n) = refl
truth-lit mark (lit.Null n) = refl
truth-lit mark (lit.Num n) = refl

pub ruleset truth_nodes = (
  truth-call,
  truth-update,
  truth-member,
  truth-unary,
  truth-assign,
  truth-lit,
)

number_eval : (mark : ℕ) (x : Name) (b : Bool) (ss rs qs : List Span) (cs ts : Forest) → number mark (if b then node (tree.CallEval x) ss ts else node tree.Call rs (node (tree.Read x) qs cs ⊳ ts)) ≡ None
number_eval mark x true ss rs qs cs ts = refl
number_eval mark x false ss rs qs cs ts = refl

pub number-call : (mark : ℕ) (s : Span) (f : Tree) (ts : Forest) → number mark (call_node s f ts) ≡ None
unfolding call_node
number-call mark s (node (tree.Dot k) ss cs) ts = refl
number-call mark s (node tree.Index ss cs) ts = refl
number-call mark s (node (tree.Read x) ss cs) ts = number_eval mark x (is_eval x) _ _ _ cs ts
number-call mark s (node l ss cs) ts = refl

pub number-update : (mark : ℕ) (o : UpdateOp) (b : Bool) (s : Span) (t : AssignTarget Expr) → number mark (update_node expr_tree o b s t) ≡ None
number-update mark o b s (target.Ident n) = refl
number-update mark o b s (target.Member n) = by_prop n.prop
  where
    by_prop : (p : MemberProp Expr) → number mark (update_node expr_tree o b s (target.Member (record n { prop = p }))) ≡ None
    by_prop (prop.Ident k) = refl
    by_prop (prop.Computed k) = refl

pub number-assign : (mark : ℕ) (o : AssignOp) (s : Span) (t : AssignTarget Expr) (v : Tree) → number mark (assign_node expr_tree o s t v) ≡ None
number-assign mark o s (target.Ident n) v = refl
number-assign mark o s (target.Member n) v = by_prop n.prop
  where
    by_prop : (p : MemberProp Expr) → number mark (assign_node expr_tree o s (target.Member (record n { prop = p })) v) ≡ None
    by_prop (prop.Ident k) = refl
    by_prop (prop.Computed k) = refl

number_member : (mark : ℕ) (s : Span) (x : Expr) (p : MemberProp Expr) → number mark (member_node expr_tree s x p) ≡ None
number_member mark s x (prop.Ident k) = refl
number_member mark s x (prop.Computed k) = refl

pub number-member : (mark : ℕ) (n : MemberExpr Expr) → number mark (member_tree expr_tree n) ≡ None
number-member mark n = number_member mark n.span n.obj.value n.prop

pub number-unary : (mark : ℕ) (op : UnaryOp) (s : Span) (t : Tree) → number mark (unary_node op s t) ≡ unary_number op (number mark t) (unary_known op (pure mark t) (truth mark t))
unfolding unary_node
number-unary mark unary.TypeOf s (node (tree.Read x) ss cs) = refl
number-unary mark unary.TypeOf s (node l ss cs) = refl
number-unary mark op s t = refl

pub number-lit : (mark : ℕ) (n : Lit) → number mark (lit_tree n) ≡ to_number (lit_value n)
number-lit mark (lit.Str n) = refl
number-lit mark (lit.Bool n) = refl
number-lit mark (lit.Null n) = refl
number-lit mark (lit.Num n) = refl

pub ruleset number_nodes = (
  number-call,
  number-update,
  number-assign,
  number-member,
  number-unary,
  number-lit,
)
