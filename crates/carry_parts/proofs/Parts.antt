-- Expressions that take up a name in their label are no names.
use Rattle.std.proofs.Common.{◌≡◌, Bool, true, false, refl, List, [], ◌∷◌}
use Rattle.std.specs.Prelude.{if◌then◌else◌}
use Rattle.swc_ast.specs.Tree as tree
use Rattle.swc_ast.specs.Tree.{Name, Tree, node, Forest, ◌⊳◌}
use Rattle.swc_ast.specs.Expressions.{is_eval, call_node, unary_node}
use Rattle.swc_ast.specs.declared.Span.{Span}
use Rattle.swc_ast.specs.declared.UnaryOp.{UnaryOp}
use Rattle.swc_ast.specs.declared.UnaryOp.TheVariants as op
use Rattle.carry_parts.specs.Carries.{is_read_tree}

either_call : (x : Name) (b : Bool) (s : Span) (ss : List Span) (cs ts : Forest) → is_read_tree (if b then node (tree.CallEval x) (s ∷ ss) ts else node tree.Call (s ∷ []) (node (tree.Read x) ss cs ⊳ ts)) ≡ false
either_call x true s ss cs ts = refl
either_call x false s ss cs ts = refl

pub call_no_read : (s : Span) (t : Tree) (ts : Forest) → is_read_tree (call_node s t ts) ≡ false
unfolding call_node
call_no_read s (node (tree.Dot k) ss cs) ts = refl
call_no_read s (node tree.Index ss cs) ts = refl
call_no_read s (node (tree.Read x) ss cs) ts = either_call x (is_eval x) s ss cs ts
call_no_read s (node l ss cs) ts = refl

pub unary_no_read : (o : UnaryOp) (s : Span) (t : Tree) → is_read_tree (unary_node o s t) ≡ false
unfolding unary_node
unary_no_read op.TypeOf s (node (tree.Read x) ss cs) = refl
unary_no_read op.TypeOf s (node l ss cs) = refl
unary_no_read o s t = refl
