-- Purity of nodes whose label is told by their parts.
use Rattle.std.proofs.Common.{◌≡◌, ℕ, Bool, true, false, not, ◌&&◌, if◌then◌else◌, List, [], ◌∷◌, length, ◌≤◌, arith, refl, ap}
use Rattle.swc_ast.specs.Tree as tree
use Rattle.swc_ast.specs.Tree.{Name, Tree, node, Forest, ε, ◌⊳◌}
use Rattle.swc_ast.specs.Parts.{lit_tree, list_trees}
use Rattle.swc_ast.specs.Expressions.{is_eval, unary_node, call_node, update_node, assign_node, member_node, member_tree}
use Rattle.swc_ast.specs.Views.{expr_tree}
use Rattle.swc_ast.specs.declared.Span.{Span}
use Rattle.swc_ast.specs.declared.UnaryOp.{UnaryOp}
use Rattle.swc_ast.specs.declared.UnaryOp.TheVariants as unary
use Rattle.swc_ast.specs.declared.UpdateOp.{UpdateOp}
use Rattle.swc_ast.specs.declared.BinaryOp.{BinaryOp}
use Rattle.swc_ast.specs.declared.BinaryOp.TheVariants.{In, InstanceOf}
use Rattle.swc_ast.specs.declared.AssignOp.{AssignOp}
use Rattle.swc_ast.specs.declared.literals.Lit.{Lit}
use Rattle.swc_ast.specs.declared.literals.Lit.TheVariants as lit
use Rattle.swc_ast.specs.declared.expressions.Expr.{Expr}
use Rattle.swc_ast.specs.declared.expressions.AssignTarget.{AssignTarget}
use Rattle.swc_ast.specs.declared.expressions.AssignTarget.TheVariants as target
use Rattle.swc_ast.specs.declared.expressions.MemberExpr.{MemberExpr}
use Rattle.swc_ast.specs.declared.expressions.MemberProp.{MemberProp}
use Rattle.swc_ast.specs.declared.expressions.MemberProp.TheVariants as prop
use Rattle.swc_utils.specs.Pure.{no_trees, pure, pure_all, is_pure_callee}
use Rattle.swc_utils.specs.Effects.{deletes, has_no_meaning}

pub and_true : (b : Bool) → (b && true) ≡ b
and_true true = refl
and_true false = refl

pub second_fails : (a b c : Bool) → b ≡ false → (a && (b && c)) ≡ false
second_fails true b c h = ap (λ x. x && c) h
second_fails false b c h = refl

-- children of a list that is not empty
pub some_trees : {X : Type 0} (f : X → Tree) (xs : List X) → 1 ≤ length xs → no_trees (list_trees f xs) ≡ false
some_trees f [] h = absurd (omega (arith, h))
some_trees f (x ∷ xs) h = refl

pub pure-unary : (mark : ℕ) (op : UnaryOp) (s : Span) (t : Tree) → pure mark (unary_node op s t) ≡ (not (deletes op) && pure mark t)
unfolding unary_node
pure-unary mark unary.TypeOf s (node (tree.Read x) ss cs) = refl
pure-unary mark unary.TypeOf s (node l ss cs) = and_true (pure mark (node l ss cs))
pure-unary mark unary.Delete s t = refl
pure-unary mark op s t = and_true (pure mark t)

pub pure-binary : (mark : ℕ) (op : BinaryOp) (ss : List Span) (a b : Tree) → pure mark (node (tree.Binary op) ss (a ⊳ b ⊳ ε)) ≡ (not (has_no_meaning op) && (pure mark a && pure mark b))
pure-binary mark In ss a b = refl
pure-binary mark InstanceOf ss a b = refl
pure-binary mark op ss a b = ap (λ x. pure mark a && x) (and_true (pure mark b))

eval_pure : (mark : ℕ) (x : Name) (b : Bool) (ss rs qs : List Span) (cs ts : Forest) → pure mark (if b then node (tree.CallEval x) ss ts else node tree.Call rs (node (tree.Read x) qs cs ⊳ ts)) ≡ false
eval_pure mark x true ss rs qs cs ts = refl
eval_pure mark x false ss rs qs cs ts = refl

pub pure-call : (mark : ℕ) (s : Span) (f : Tree) (ts : Forest) → pure mark (call_node s f ts) ≡ (is_pure_callee f && pure_all mark ts)
unfolding call_node
pure-call mark s (node (tree.Dot k) ss cs) ts = refl
pure-call mark s (node tree.Index ss cs) ts = refl
pure-call mark s (node (tree.Read x) ss cs) ts = eval_pure mark x (is_eval x) _ _ _ cs ts
pure-call mark s (node l ss cs) ts = refl

pub pure-update : (mark : ℕ) (o : UpdateOp) (b : Bool) (s : Span) (t : AssignTarget Expr) → pure mark (update_node expr_tree o b s t) ≡ false
pure-update mark o b s (target.Ident n) = refl
pure-update mark o b s (target.Member n) = by_prop n.prop
  where
    by_prop : (p : MemberProp Expr) → pure mark (update_node expr_tree o b s (target.Member (record n { prop = p }))) ≡ false
    by_prop (prop.Ident k) = refl
    by_prop (prop.Computed k) = refl

pub pure-assign : (mark : ℕ) (o : AssignOp) (s : Span) (t : AssignTarget Expr) (v : Tree) → pure mark (assign_node expr_tree o s t v) ≡ false
pure-assign mark o s (target.Ident n) v = refl
pure-assign mark o s (target.Member n) v = by_prop n.prop
  where
    by_prop : (p : MemberProp Expr) → pure mark (assign_node expr_tree o s (target.Member (record n { prop = p })) v) ≡ false
    by_prop (prop.Ident k) = refl
    by_prop (prop.Computed k) = refl

member_impure : (mark : ℕ) (s : Span) (x : Expr) (p : MemberProp Expr) → pure mark (member_node expr_tree s x p) ≡ false
member_impure mark s x (prop.Ident k) = refl
member_impure mark s x (prop.Computed k) = refl

pub pure-member : (mark : ℕ) (n : MemberExpr Expr) → pure mark (member_tree expr_tree n) ≡ false
pure-member mark n = member_impure mark n.span n.obj.value n.prop

pub pure-lit : (mark : ℕ) (n : Lit) → pure mark (lit_tree n) ≡ true
pure-lit mark (lit.Str n) = refl
pure-lit mark (lit.Bool n) = refl
pure-lit mark (lit.Null n) = refl
pure-lit mark (lit.Num n) = refl

pub ruleset pure_nodes = (
  pure-unary,
  pure-binary,
  pure-call,
  pure-update,
  pure-assign,
  pure-member,
  pure-lit,
)

-- no callee of another form is pure

pub callee-unary : (op : UnaryOp) (s : Span) (t : Tree) → is_pure_callee (unary_node op s t) ≡ false
unfolding unary_node
callee-unary unary.TypeOf s (node (tree.Read x) ss cs) = refl
callee-unary unary.TypeOf s (node l ss cs) = refl
callee-unary op s t = refl

eval_callee : (x : Name) (b : Bool) (ss rs qs : List Span) (cs ts : Forest) → is_pure_callee (if b then node (tree.CallEval x) ss ts else node tree.Call rs (node (tree.Read x) qs cs ⊳ ts)) ≡ false
eval_callee x true ss rs qs cs ts = refl
eval_callee x false ss rs qs cs ts = refl

pub callee-call : (s : Span) (f : Tree) (ts : Forest) → is_pure_callee (call_node s f ts) ≡ false
unfolding call_node
callee-call s (node (tree.Dot k) ss cs) ts = refl
callee-call s (node tree.Index ss cs) ts = refl
callee-call s (node (tree.Read x) ss cs) ts = eval_callee x (is_eval x) _ _ _ cs ts
callee-call s (node l ss cs) ts = refl

pub callee-update : (o : UpdateOp) (b : Bool) (s : Span) (t : AssignTarget Expr) → is_pure_callee (update_node expr_tree o b s t) ≡ false
callee-update o b s (target.Ident n) = refl
callee-update o b s (target.Member n) = by_prop n.prop
  where
    by_prop : (p : MemberProp Expr) → is_pure_callee (update_node expr_tree o b s (target.Member (record n { prop = p }))) ≡ false
    by_prop (prop.Ident k) = refl
    by_prop (prop.Computed k) = refl

pub callee-assign : (o : AssignOp) (s : Span) (t : AssignTarget Expr) (v : Tree) → is_pure_callee (assign_node expr_tree o s t v) ≡ false
callee-assign o s (target.Ident n) v = refl
callee-assign o s (target.Member n) v = by_prop n.prop
  where
    by_prop : (p : MemberProp Expr) → is_pure_callee (assign_node expr_tree o s (target.Member (record n { prop = p })) v) ≡ false
    by_prop (prop.Ident k) = refl
    by_prop (prop.Computed k) = refl

callee_member : (s : Span) (x : Expr) (p : MemberProp Expr) → is_pure_callee (member_node expr_tree s x p) ≡ false
callee_member s x (prop.Ident k) = refl
callee_member s x (prop.Computed k) = refl

pub callee-member : (n : MemberExpr Expr) → is_pure_callee (member_tree expr_tree n) ≡ false
callee-member n = callee_member n.span n.obj.value n.prop

pub callee-lit : (n : Lit) → is_pure_callee (lit_tree n) ≡ false
callee-lit (lit.Str n) = refl
callee-lit (lit.Bool n) = refl
callee-lit (lit.Null n) = refl
callee-lit (lit.Num n) = refl

pub ruleset callee_nodes = (
  callee-unary,
  callee-call,
  callee-update,
  callee-assign,
  callee-member,
  callee-lit,
)
