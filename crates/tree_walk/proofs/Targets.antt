-- Callees, operands and targets, whose labels are part of the label of the node round them.
use Rattle.std.proofs.Common.{◌≡◌, Bool, true, false, ◌||◌, ◌&&◌, IsFalse, IsTrue, refl, sym, ap, subst, List, [], ◌∷◌}
use Rattle.std.proofs.lemmas.Bool.{false≢true}
use Rattle.std.specs.Prelude.{if◌then◌else◌}
use Rattle.swc_ast.specs.Tree as tree
use Rattle.swc_ast.specs.Tree.{Name, Tree, node, Forest, ε, ◌⊳◌}
use Rattle.swc_ast.specs.Parts.{lit_tree}
use Rattle.swc_ast.specs.Expressions.{is_eval, call_node, unary_node, member_tree, member_node, member_update, member_assign, update_node, assign_node}
use Rattle.swc_ast.specs.Views.{expr_tree}
use Rattle.swc_ast.specs.declared.AssignOp.{AssignOp}
use Rattle.swc_ast.specs.declared.Span.{Span}
use Rattle.swc_ast.specs.declared.UnaryOp.{UnaryOp}
use Rattle.swc_ast.specs.declared.UnaryOp.TheVariants as op
use Rattle.swc_ast.specs.declared.UpdateOp.{UpdateOp}
use Rattle.swc_ast.specs.declared.expressions.AssignTarget.TheVariants as target
use Rattle.swc_ast.specs.declared.expressions.Expr.{Expr}
use Rattle.swc_ast.specs.declared.expressions.MemberExpr.{MemberExpr}
use Rattle.swc_ast.specs.declared.expressions.MemberProp.{MemberProp}
use Rattle.swc_ast.specs.declared.expressions.MemberProp.TheVariants as prop
use Rattle.swc_ast.specs.declared.literals.Lit.{Lit}
use Rattle.swc_ast.specs.declared.literals.Lit.TheVariants as lit
use Rattle.swc_ast.specs.declared.names.Ident.{Ident}
use Rattle.tree_walk.specs.declared.rules.Place.{Place}
use Rattle.tree_walk.specs.declared.rules.Place.TheVariants as place
use Rattle.tree_walk.specs.Walks.{Placed, Walks, AllWalk, nothing, both, Inside, parts, Fits}
use Rattle.tree_walk.specs.Parts.{member_tree_is, name_tree_is, part_of_call_is, eval_tree_is, is_typeof, operand_of, update_of, assign_of, TargetWalks, CalleeWalks, OperandWalks}
use Rattle.tree_walk.proofs.Walked.{all_then, one_child, inside_at, shallow_inside}
use Rattle.tree_walk.specs.Pass.{Pass, is_shallow}

pub shallow_lit : (n : Lit) → is_shallow (lit_tree n) ≡ true
shallow_lit (lit.Str n) = refl
shallow_lit (lit.Bool n) = refl
shallow_lit (lit.Null n) = refl
shallow_lit (lit.Num n) = refl

-- a member as a callee
pub member_callee : {X : Pass} {t u : Tree} {c : Bool} → IsTrue (member_tree_is t) → Inside X c t u → CalleeWalks X t u c
unfolding call_node
member_callee h (parts {l = tree.Dot k} i ws) = λ s ts us d rest. parts refl (all_then ws rest)
member_callee h (parts {l = tree.Index} i ws) = λ s ts us d rest. parts refl (all_then ws rest)
member_callee h (parts {l = l} i ws) = absurd (false≢true h)

pub member_callee_at : {X : Pass} {v w u : Tree} {c : Bool} (t : Tree) → IsTrue (member_tree_is v) → Inside X c w u → v ≡ t → w ≡ t → CalleeWalks X t u c
member_callee_at {X} {v} {w} {u} {c} t h k p q = member_callee (subst (λ z. IsTrue (member_tree_is z)) p h) (subst (λ z. Inside X c z u) q k)

-- a callee that is no part of the label
pub plain_call : (s : Span) (t : Tree) (ts : Forest) → IsFalse (part_of_call_is t) → call_node s t ts ≡ node tree.Call (s ∷ []) (t ⊳ ts)
unfolding call_node
plain_call s (node (tree.Read x) ss cs) ts h = ap (λ b. if b then node (tree.CallEval x) (s ∷ ss) ts else node tree.Call (s ∷ []) (node (tree.Read x) ss cs ⊳ ts)) h
plain_call s (node (tree.Dot k) ss cs) ts h = absurd (false≢true (sym h))
plain_call s (node tree.Index ss cs) ts h = absurd (false≢true (sym h))
plain_call s (node l ss cs) ts h = refl

fits_callee : (t : Tree) → IsFalse (part_of_call_is t) → Fits place.Callee t
fits_callee (node l ss ts) h = h

callee_fits : (t : Tree) → Fits place.Callee t → IsFalse (part_of_call_is t)
callee_fits (node l ss ts) h = h

pub plain_callee : {X : Pass} (t u : Tree) (c : Bool) → IsFalse (part_of_call_is t) → Placed X place.Callee t u c → CalleeWalks X t u c
plain_callee {X} t u c h w = λ s ts us d rest. inside_at (plain_call s t ts h) (plain_call s u us (callee_fits u (w.1 (fits_callee t h)))) (parts refl (both w.0 rest))

choice : {X : Pass} (x : Name) (ss : List Span) (s : Span) (cs ts us : Forest) (d b : Bool) → b ≡ true → AllWalk X d ts us → Inside X d (if b then node (tree.CallEval x) (s ∷ ss) ts else node tree.Call (s ∷ []) (node (tree.Read x) ss cs ⊳ ts)) (if b then node (tree.CallEval x) (s ∷ ss) us else node tree.Call (s ∷ []) (node (tree.Read x) ss cs ⊳ us))
choice x ss s cs ts us d true h k = parts refl k
choice x ss s cs ts us d false h k = absurd (false≢true h)

-- the name `eval`, which the walk leaves as it is
pub kept_callee : {X : Pass} (t : Tree) → IsTrue (eval_tree_is t) → CalleeWalks X t t false
unfolding call_node
kept_callee {X} (node (tree.Read x) ss cs) h = λ s ts us d rest. choice x ss s cs ts us d (is_eval x) h rest
kept_callee {X} (node l ss cs) h = absurd (false≢true h)

plain_typeof : (s : Span) (t : Tree) → IsFalse (name_tree_is t) → unary_node op.TypeOf s t ≡ node (tree.Unary op.TypeOf) (s ∷ []) (t ⊳ ε)
unfolding unary_node
plain_typeof s (node (tree.Read x) ss cs) h = absurd (false≢true (sym h))
plain_typeof s (node l ss cs) h = refl

fits_name : (t : Tree) → IsFalse (name_tree_is t) → Fits place.TypeOf t
fits_name (node l ss ts) h = h

name_fits : (t : Tree) → Fits place.TypeOf t → IsFalse (name_tree_is t)
name_fits (node l ss ts) h = h

-- an operand that is no part of the label
pub plain_operand : {X : Pass} (p : Place) (o : UnaryOp) (t u : Tree) (c : Bool) → IsFalse (is_typeof o && name_tree_is t) → Placed X (operand_of o p) t u c → OperandWalks X o t u c
unfolding unary_node
plain_operand {X} p op.TypeOf t u c h w = λ s. inside_at (plain_typeof s t h) (plain_typeof s u (name_fits u (w.1 (fits_name t h)))) (parts refl (one_child w.0))
plain_operand {X} p op.Minus t u c h w = λ s. parts refl (one_child w.0)
plain_operand {X} p op.Plus t u c h w = λ s. parts refl (one_child w.0)
plain_operand {X} p op.Bang t u c h w = λ s. parts refl (one_child w.0)
plain_operand {X} p op.Tilde t u c h w = λ s. parts refl (one_child w.0)
plain_operand {X} p op.Void t u c h w = λ s. parts refl (one_child w.0)
plain_operand {X} p op.Delete t u c h w = λ s. parts refl (one_child w.0)

-- a name under `typeof`, which the walk leaves as it is
pub kept_operand : {X : Pass} (o : UnaryOp) (t : Tree) → IsTrue (is_typeof o && name_tree_is t) → is_shallow t ≡ true → OperandWalks X o t t false
unfolding unary_node
kept_operand {X} op.TypeOf (node (tree.Read x) ss cs) h k = λ s. shallow_inside X (node (tree.TypeOfName x) (s ∷ ss) cs) k
kept_operand op.TypeOf (node l ss cs) h k = absurd (false≢true h)
kept_operand o t h k = absurd (false≢true h)

-- a member as a target
inside_update : {X : Pass} {t u : Tree} {c : Bool} (o : UpdateOp) (b : Bool) (s : Span) → Inside X c t u → Inside X c (update_of o b s t) (update_of o b s u)
inside_update o b s (parts {l = tree.Dot k} i ws) = parts refl ws
inside_update o b s (parts {l = l} i ws) = parts refl ws

inside_assign : {X : Pass} {t u v w : Tree} {c d : Bool} (o : AssignOp) (s : Span) → Inside X c t u → Walks X d v w → Inside X (c || d) (assign_of o s t v) (assign_of o s u w)
inside_assign o s (parts {l = tree.Dot k} i ws) h = parts refl (all_then ws (one_child h))
inside_assign o s (parts {l = l} i ws) h = parts refl (all_then ws (one_child h))

update_is : (o : UpdateOp) (b : Bool) (s : Span) (n : MemberExpr Expr) → update_node expr_tree o b s (target.Member n) ≡ update_of o b s (member_tree expr_tree n)
update_is o b s n = at_prop o b s n.span n.obj.value n.prop
  where
    at_prop : (o : UpdateOp) (b : Bool) (s m : Span) (x : Expr) (p : MemberProp Expr) → member_update expr_tree o b s m x p ≡ update_of o b s (member_node expr_tree m x p)
    at_prop o b s m x (prop.Ident k) = refl
    at_prop o b s m x (prop.Computed k) = refl

assign_is : (o : AssignOp) (s : Span) (n : MemberExpr Expr) (v : Tree) → assign_node expr_tree o s (target.Member n) v ≡ assign_of o s (member_tree expr_tree n) v
assign_is o s n v = at_prop o s n.span n.obj.value n.prop v
  where
    at_prop : (o : AssignOp) (s m : Span) (x : Expr) (p : MemberProp Expr) (v : Tree) → member_assign expr_tree o s m x p v ≡ assign_of o s (member_node expr_tree m x p) v
    at_prop o s m x (prop.Ident k) v = refl
    at_prop o s m x (prop.Computed k) v = refl

pub member_target : {X : Pass} {m n : MemberExpr Expr} {c : Bool} → Inside X c (member_tree expr_tree m) (member_tree expr_tree n) → TargetWalks X (target.Member m) (target.Member n) c
member_target {X} {m} {n} {c} h = record {
  updated = λ o b s. inside_at (update_is o b s m) (update_is o b s n) (inside_update o b s h);
  assigned = λ o s v w d k. inside_at (assign_is o s m v) (assign_is o s n w) (inside_assign o s h k);
}

pub name_target : {X : Pass} (n : Ident) → TargetWalks X (target.Ident n) (target.Ident n) false
name_target n = record {
  updated = λ o b s. parts refl nothing;
  assigned = λ o s v w d k. parts refl (one_child k);
}
