-- Effects of nodes whose label is told by their parts.
use Rattle.std.proofs.Common.{◌≡◌, ℕ, Bool, true, false, if◌then◌else◌, List, refl}
use Rattle.swc_ast.specs.Tree as tree
use Rattle.swc_ast.specs.Tree.{Name, Tree, node, Forest, ◌⊳◌}
use Rattle.swc_ast.specs.Parts.{lit_tree}
use Rattle.swc_ast.specs.Expressions.{is_eval, unary_node, call_node, update_node, assign_node, member_node, member_tree}
use Rattle.swc_ast.specs.Views.{expr_tree}
use Rattle.swc_ast.specs.declared.Span.{Span}
use Rattle.swc_ast.specs.declared.UnaryOp.{UnaryOp}
use Rattle.swc_ast.specs.declared.UnaryOp.TheVariants as unary
use Rattle.swc_ast.specs.declared.UpdateOp.{UpdateOp}
use Rattle.swc_ast.specs.declared.AssignOp.{AssignOp}
use Rattle.swc_ast.specs.declared.literals.Lit.{Lit}
use Rattle.swc_ast.specs.declared.literals.Lit.TheVariants as lit
use Rattle.swc_ast.specs.declared.expressions.Expr.{Expr}
use Rattle.swc_ast.specs.declared.expressions.AssignTarget.{AssignTarget}
use Rattle.swc_ast.specs.declared.expressions.AssignTarget.TheVariants as target
use Rattle.swc_ast.specs.declared.expressions.MemberExpr.{MemberExpr}
use Rattle.swc_ast.specs.declared.expressions.MemberProp.{MemberProp}
use Rattle.swc_ast.specs.declared.expressions.MemberProp.TheVariants as prop
use Rattle.swc_utils.specs.Effects.{is_read, keeps_whole, unless_pure, effects}
use Rattle.swc_utils.proofs.Chains.{joined_none}

pub read-unary : (op : UnaryOp) (s : Span) (t : Tree) → is_read (unary_node op s t) ≡ false
unfolding unary_node
read-unary unary.TypeOf s (node (tree.Read x) ss cs) = refl
read-unary unary.TypeOf s (node l ss cs) = refl
read-unary op s t = refl

read_eval : (x : Name) (b : Bool) (ss rs qs : List Span) (cs ts : Forest) → is_read (if b then node (tree.CallEval x) ss ts else node tree.Call rs (node (tree.Read x) qs cs ⊳ ts)) ≡ false
read_eval x true ss rs qs cs ts = refl
read_eval x false ss rs qs cs ts = refl

pub read-call : (s : Span) (f : Tree) (ts : Forest) → is_read (call_node s f ts) ≡ false
unfolding call_node
read-call s (node (tree.Dot k) ss cs) ts = refl
read-call s (node tree.Index ss cs) ts = refl
read-call s (node (tree.Read x) ss cs) ts = read_eval x (is_eval x) _ _ _ cs ts
read-call s (node l ss cs) ts = refl

pub read-update : (o : UpdateOp) (b : Bool) (s : Span) (t : AssignTarget Expr) → is_read (update_node expr_tree o b s t) ≡ false
read-update o b s (target.Ident n) = refl
read-update o b s (target.Member n) = by_prop n.prop
  where
    by_prop : (p : MemberProp Expr) → is_read (update_node expr_tree o b s (target.Member (record n { prop = p }))) ≡ false
    by_prop (prop.Ident k) = refl
    by_prop (prop.Computed k) = refl

pub read-assign : (o : AssignOp) (s : Span) (t : AssignTarget Expr) (v : Tree) → is_read (assign_node expr_tree o s t v) ≡ false
read-assign o s (target.Ident n) v = refl
read-assign o s (target.Member n) v = by_prop n.prop
  where
    by_prop : (p : MemberProp Expr) → is_read (assign_node expr_tree o s (target.Member (record n { prop = p })) v) ≡ false
    by_prop (prop.Ident k) = refl
    by_prop (prop.Computed k) = refl

read_member : (s : Span) (x : Expr) (p : MemberProp Expr) → is_read (member_node expr_tree s x p) ≡ false
read_member s x (prop.Ident k) = refl
read_member s x (prop.Computed k) = refl

pub read-member : (n : MemberExpr Expr) → is_read (member_tree expr_tree n) ≡ false
read-member n = read_member n.span n.obj.value n.prop

pub read-lit : (n : Lit) → is_read (lit_tree n) ≡ false
read-lit (lit.Str n) = refl
read-lit (lit.Bool n) = refl
read-lit (lit.Null n) = refl
read-lit (lit.Num n) = refl

pub ruleset read_nodes = (
  read-unary,
  read-call,
  read-update,
  read-assign,
  read-member,
  read-lit,
)

effects_eval : (mark : ℕ) (x : Name) (b : Bool) (ss rs qs : List Span) (cs ts : Forest) → effects mark (if b then node (tree.CallEval x) ss ts else node tree.Call rs (node (tree.Read x) qs cs ⊳ ts)) ≡ unless_pure mark (if b then node (tree.CallEval x) ss ts else node tree.Call rs (node (tree.Read x) qs cs ⊳ ts))
effects_eval mark x true ss rs qs cs ts = refl
effects_eval mark x false ss rs qs cs ts = refl

pub effects-call : (mark : ℕ) (s : Span) (f : Tree) (ts : Forest) → effects mark (call_node s f ts) ≡ unless_pure mark (call_node s f ts)
unfolding call_node
effects-call mark s (node (tree.Dot k) ss cs) ts = refl
effects-call mark s (node tree.Index ss cs) ts = refl
effects-call mark s (node (tree.Read x) ss cs) ts = effects_eval mark x (is_eval x) _ _ _ cs ts
effects-call mark s (node l ss cs) ts = refl

pub effects-update : (mark : ℕ) (o : UpdateOp) (b : Bool) (s : Span) (t : AssignTarget Expr) → effects mark (update_node expr_tree o b s t) ≡ unless_pure mark (update_node expr_tree o b s t)
effects-update mark o b s (target.Ident n) = refl
effects-update mark o b s (target.Member n) = by_prop n.prop
  where
    by_prop : (p : MemberProp Expr) → effects mark (update_node expr_tree o b s (target.Member (record n { prop = p }))) ≡ unless_pure mark (update_node expr_tree o b s (target.Member (record n { prop = p })))
    by_prop (prop.Ident k) = refl
    by_prop (prop.Computed k) = refl

pub effects-assign : (mark : ℕ) (o : AssignOp) (s : Span) (t : AssignTarget Expr) (v : Tree) → effects mark (assign_node expr_tree o s t v) ≡ unless_pure mark (assign_node expr_tree o s t v)
effects-assign mark o s (target.Ident n) v = refl
effects-assign mark o s (target.Member n) v = by_prop n.prop
  where
    by_prop : (p : MemberProp Expr) → effects mark (assign_node expr_tree o s (target.Member (record n { prop = p })) v) ≡ unless_pure mark (assign_node expr_tree o s (target.Member (record n { prop = p })) v)
    by_prop (prop.Ident k) = refl
    by_prop (prop.Computed k) = refl

effects_member : (mark : ℕ) (s : Span) (x : Expr) (p : MemberProp Expr) → effects mark (member_node expr_tree s x p) ≡ unless_pure mark (member_node expr_tree s x p)
effects_member mark s x (prop.Ident k) = refl
effects_member mark s x (prop.Computed k) = refl

pub effects-member : (mark : ℕ) (n : MemberExpr Expr) → effects mark (member_tree expr_tree n) ≡ unless_pure mark (member_tree expr_tree n)
effects-member mark n = effects_member mark n.span n.obj.value n.prop

pub effects-lit : (mark : ℕ) (n : Lit) → effects mark (lit_tree n) ≡ unless_pure mark (lit_tree n)
effects-lit mark (lit.Str n) = refl
effects-lit mark (lit.Bool n) = refl
effects-lit mark (lit.Null n) = refl
effects-lit mark (lit.Num n) = refl

pub effects-unary : (mark : ℕ) (op : UnaryOp) (s : Span) (t : Tree) → effects mark (unary_node op s t) ≡ (if keeps_whole op t then unless_pure mark (unary_node op s t) else effects mark t)
unfolding unary_node
effects-unary mark unary.TypeOf s (node (tree.Read x) ss cs) = refl
effects-unary mark unary.TypeOf s (node l ss cs) = joined_none (effects mark (node l ss cs))
effects-unary mark unary.Delete s t = refl
effects-unary mark op s t = joined_none (effects mark t)

pub ruleset effect_nodes = (
  effects-call,
  effects-update,
  effects-assign,
  effects-member,
  effects-lit,
  effects-unary,
)
