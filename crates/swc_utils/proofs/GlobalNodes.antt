-- No other node is a name of the host.
use Rattle.std.proofs.Common.{◌≡◌, ℕ, Bool, true, false, if◌then◌else◌, List, refl}
use Rattle.swc_ast.specs.Tree as tree
use Rattle.swc_ast.specs.Tree.{Name, Tree, node, Forest, ◌⊳◌}
use Rattle.swc_ast.specs.Parts.{lit_tree}
use Rattle.swc_ast.specs.Expressions.{is_eval, unary_node, call_node, update_node, assign_node, member_node, member_tree}
use Rattle.swc_ast.specs.Views.{expr_tree}
use Rattle.swc_ast.specs.declared.Span.{Span}
use Rattle.swc_ast.specs.declared.UnaryOp.{UnaryOp}
use Rattle.swc_ast.specs.declared.UnaryOp.TheVariants as unary
use Rattle.swc_ast.specs.declared.UpdateOp.{UpdateOp}
use Rattle.swc_ast.specs.declared.AssignOp.{AssignOp}
use Rattle.swc_ast.specs.declared.literals.Lit.{Lit}
use Rattle.swc_ast.specs.declared.literals.Lit.TheVariants as lit
use Rattle.swc_ast.specs.declared.expressions.Expr.{Expr}
use Rattle.swc_ast.specs.declared.expressions.AssignTarget.{AssignTarget}
use Rattle.swc_ast.specs.declared.expressions.AssignTarget.TheVariants as target
use Rattle.swc_ast.specs.declared.expressions.MemberExpr.{MemberExpr}
use Rattle.swc_ast.specs.declared.expressions.MemberProp.{MemberProp}
use Rattle.swc_ast.specs.declared.expressions.MemberProp.TheVariants as prop
use Rattle.swc_utils.specs.Globals.{is_global_ref_to, directness_matters}

pub global-unary : (mark : ℕ) (text : List ℕ) (op : UnaryOp) (s : Span) (t : Tree) → is_global_ref_to mark text (unary_node op s t) ≡ false
unfolding unary_node
global-unary mark text unary.TypeOf s (node (tree.Read x) ss cs) = refl
global-unary mark text unary.TypeOf s (node l ss cs) = refl
global-unary mark text op s t = refl

global_eval : (mark : ℕ) (text : List ℕ) (x : Name) (b : Bool) (ss rs qs : List Span) (cs ts : Forest) → is_global_ref_to mark text (if b then node (tree.CallEval x) ss ts else node tree.Call rs (node (tree.Read x) qs cs ⊳ ts)) ≡ false
global_eval mark text x true ss rs qs cs ts = refl
global_eval mark text x false ss rs qs cs ts = refl

pub global-call : (mark : ℕ) (text : List ℕ) (s : Span) (f : Tree) (ts : Forest) → is_global_ref_to mark text (call_node s f ts) ≡ false
unfolding call_node
global-call mark text s (node (tree.Dot k) ss cs) ts = refl
global-call mark text s (node tree.Index ss cs) ts = refl
global-call mark text s (node (tree.Read x) ss cs) ts = global_eval mark text x (is_eval x) _ _ _ cs ts
global-call mark text s (node l ss cs) ts = refl

pub global-update : (mark : ℕ) (text : List ℕ) (o : UpdateOp) (b : Bool) (s : Span) (t : AssignTarget Expr) → is_global_ref_to mark text (update_node expr_tree o b s t) ≡ false
global-update mark text o b s (target.Ident n) = refl
global-update mark text o b s (target.Member n) = by_prop n.prop
  where
    by_prop : (p : MemberProp Expr) → is_global_ref_to mark text (update_node expr_tree o b s (target.Member (record n { prop = p }))) ≡ false
    by_prop (prop.Ident k) = refl
    by_prop (prop.Computed k) = refl

pub global-assign : (mark : ℕ) (text : List ℕ) (o : AssignOp) (s : Span) (t : AssignTarget Expr) (v : Tree) → is_global_ref_to mark text (assign_node expr_tree o s t v) ≡ false
global-assign mark text o s (target.Ident n) v = refl
global-assign mark text o s (target.Member n) v = by_prop n.prop
  where
    by_prop : (p : MemberProp Expr) → is_global_ref_to mark text (assign_node expr_tree o s (target.Member (record n { prop = p })) v) ≡ false
    by_prop (prop.Ident k) = refl
    by_prop (prop.Computed k) = refl

global_member : (mark : ℕ) (text : List ℕ) (s : Span) (x : Expr) (p : MemberProp Expr) → is_global_ref_to mark text (member_node expr_tree s x p) ≡ false
global_member mark text s x (prop.Ident k) = refl
global_member mark text s x (prop.Computed k) = refl

pub global-member : (mark : ℕ) (text : List ℕ) (n : MemberExpr Expr) → is_global_ref_to mark text (member_tree expr_tree n) ≡ false
global-member mark text n = global_member mark text n.span n.obj.value n.prop

pub global-lit : (mark : ℕ) (text : List ℕ) (n : Lit) → is_global_ref_to mark text (lit_tree n) ≡ false
global-lit mark text (lit.Str n) = refl
global-lit mark text (lit.Bool n) = refl
global-lit mark text (lit.Null n) = refl
global-lit mark text (lit.Num n) = refl

pub ruleset global_nodes = (
  global-unary,
  global-call,
  global-update,
  global-assign,
  global-member,
  global-lit,
)

pub direct-unary : (mark : ℕ) (op : UnaryOp) (s : Span) (t : Tree) → directness_matters mark (unary_node op s t) ≡ false
unfolding unary_node
direct-unary mark unary.TypeOf s (node (tree.Read x) ss cs) = refl
direct-unary mark unary.TypeOf s (node l ss cs) = refl
direct-unary mark op s t = refl

direct_eval : (mark : ℕ) (x : Name) (b : Bool) (ss rs qs : List Span) (cs ts : Forest) → directness_matters mark (if b then node (tree.CallEval x) ss ts else node tree.Call rs (node (tree.Read x) qs cs ⊳ ts)) ≡ false
direct_eval mark x true ss rs qs cs ts = refl
direct_eval mark x false ss rs qs cs ts = refl

pub direct-call : (mark : ℕ) (s : Span) (f : Tree) (ts : Forest) → directness_matters mark (call_node s f ts) ≡ false
unfolding call_node
direct-call mark s (node (tree.Dot k) ss cs) ts = refl
direct-call mark s (node tree.Index ss cs) ts = refl
direct-call mark s (node (tree.Read x) ss cs) ts = direct_eval mark x (is_eval x) _ _ _ cs ts
direct-call mark s (node l ss cs) ts = refl

pub direct-update : (mark : ℕ) (o : UpdateOp) (b : Bool) (s : Span) (t : AssignTarget Expr) → directness_matters mark (update_node expr_tree o b s t) ≡ false
direct-update mark o b s (target.Ident n) = refl
direct-update mark o b s (target.Member n) = by_prop n.prop
  where
    by_prop : (p : MemberProp Expr) → directness_matters mark (update_node expr_tree o b s (target.Member (record n { prop = p }))) ≡ false
    by_prop (prop.Ident k) = refl
    by_prop (prop.Computed k) = refl

pub direct-assign : (mark : ℕ) (o : AssignOp) (s : Span) (t : AssignTarget Expr) (v : Tree) → directness_matters mark (assign_node expr_tree o s t v) ≡ false
direct-assign mark o s (target.Ident n) v = refl
direct-assign mark o s (target.Member n) v = by_prop n.prop
  where
    by_prop : (p : MemberProp Expr) → directness_matters mark (assign_node expr_tree o s (target.Member (record n { prop = p })) v) ≡ false
    by_prop (prop.Ident k) = refl
    by_prop (prop.Computed k) = refl

direct_member : (mark : ℕ) (s : Span) (x : Expr) (p : MemberProp Expr) → directness_matters mark (member_node expr_tree s x p) ≡ true
direct_member mark s x (prop.Ident k) = refl
direct_member mark s x (prop.Computed k) = refl

pub direct-member : (mark : ℕ) (n : MemberExpr Expr) → directness_matters mark (member_tree expr_tree n) ≡ true
direct-member mark n = direct_member mark n.span n.obj.value n.prop

pub direct-lit : (mark : ℕ) (n : Lit) → directness_matters mark (lit_tree n) ≡ false
direct-lit mark (lit.Str n) = refl
direct-lit mark (lit.Bool n) = refl
direct-lit mark (lit.Null n) = refl
direct-lit mark (lit.Num n) = refl

pub ruleset direct_nodes = (
  direct-unary,
  direct-call,
  direct-update,
  direct-assign,
  direct-member,
  direct-lit,
)
