-- Nodes that are no operators and no conditions.
use Rattle.std.proofs.Common.{Bool, true, false, if◌then◌else◌, List, [], ◌∷◌, refl}
use Rattle.swc_ast.specs.Tree as tree
use Rattle.swc_ast.specs.Tree.{Name, Tree, node, Forest, ◌⊳◌}
use Rattle.swc_ast.specs.Expressions.{is_eval, call_node}
use Rattle.swc_ast.specs.declared.Span.{Span}
use Rattle.swc_expr.specs.Simplifies.{Rests}

eval_call : (x : Name) (b : Bool) (s : Span) (ss : List Span) (cs ts : Forest) → Rests (if b then node (tree.CallEval x) (s ∷ ss) ts else node tree.Call (s ∷ []) (node (tree.Read x) ss cs ⊳ ts))
eval_call x true s ss cs ts = refl
eval_call x false s ss cs ts = refl

pub call_rests : (s : Span) (t : Tree) (ts : Forest) → Rests (call_node s t ts)
unfolding call_node
call_rests s (node (tree.Dot k) ss cs) ts = refl
call_rests s (node tree.Index ss cs) ts = refl
call_rests s (node (tree.Read x) ss cs) ts = eval_call x (is_eval x) s ss cs ts
call_rests s (node l ss cs) ts = refl
