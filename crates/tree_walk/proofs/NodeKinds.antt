-- Nodes that are no names and no parts of a call.
use Rattle.std.proofs.Common.{◌≡◌, Bool, true, false, not, refl, sym, ap, List, [], ◌∷◌}
use Rattle.std.proofs.lemmas.Bool.{false≢true, or_left, or_right}
use Rattle.std.specs.Prelude.{if◌then◌else◌}
use Rattle.swc_ast.specs.Tree as tree
use Rattle.swc_ast.specs.Tree.{Name, Tree, node, Forest, ◌⊳◌}
use Rattle.swc_ast.specs.Expressions.{is_eval, call_node, unary_node}
use Rattle.swc_ast.specs.declared.Span.{Span}
use Rattle.swc_ast.specs.declared.UnaryOp.{UnaryOp}
use Rattle.swc_ast.specs.declared.UnaryOp.TheVariants as op
use Rattle.tree_walk.specs.Parts.{member_tree_is, name_tree_is, part_of_call_is, eval_tree_is, is_bare, stands_alone}
use Rattle.tree_walk.specs.Walks.{Fits}
use Rattle.tree_walk.specs.declared.rules.Place.{Place}
use Rattle.tree_walk.specs.declared.rules.Place.TheVariants as place

either_call : (x : Name) (b : Bool) (s : Span) (ss : List Span) (cs ts : Forest) → name_tree_is (if b then node (tree.CallEval x) (s ∷ ss) ts else node tree.Call (s ∷ []) (node (tree.Read x) ss cs ⊳ ts)) ≡ false
either_call x true s ss cs ts = refl
either_call x false s ss cs ts = refl

pub call_no_name : (s : Span) (t : Tree) (ts : Forest) → name_tree_is (call_node s t ts) ≡ false
unfolding call_node
call_no_name s (node (tree.Dot k) ss cs) ts = refl
call_no_name s (node tree.Index ss cs) ts = refl
call_no_name s (node (tree.Read x) ss cs) ts = either_call x (is_eval x) s ss cs ts
call_no_name s (node l ss cs) ts = refl

either_part : (x : Name) (b : Bool) (s : Span) (ss : List Span) (cs ts : Forest) → part_of_call_is (if b then node (tree.CallEval x) (s ∷ ss) ts else node tree.Call (s ∷ []) (node (tree.Read x) ss cs ⊳ ts)) ≡ false
either_part x true s ss cs ts = refl
either_part x false s ss cs ts = refl

pub call_no_part : (s : Span) (t : Tree) (ts : Forest) → part_of_call_is (call_node s t ts) ≡ false
unfolding call_node
call_no_part s (node (tree.Dot k) ss cs) ts = refl
call_no_part s (node tree.Index ss cs) ts = refl
call_no_part s (node (tree.Read x) ss cs) ts = either_part x (is_eval x) s ss cs ts
call_no_part s (node l ss cs) ts = refl

pub unary_no_name : (o : UnaryOp) (s : Span) (t : Tree) → name_tree_is (unary_node o s t) ≡ false
unfolding unary_node
unary_no_name op.TypeOf s (node (tree.Read x) ss cs) = refl
unary_no_name op.TypeOf s (node l ss cs) = refl
unary_no_name o s t = refl

pub unary_no_part : (o : UnaryOp) (s : Span) (t : Tree) → part_of_call_is (unary_node o s t) ≡ false
unfolding unary_node
unary_no_part op.TypeOf s (node (tree.Read x) ss cs) = refl
unary_no_part op.TypeOf s (node l ss cs) = refl
unary_no_part o s t = refl

pub no_member : (t : Tree) → part_of_call_is t ≡ false → member_tree_is t ≡ false
no_member (node (tree.Dot k) ss cs) h = h
no_member (node tree.Index ss cs) h = h
no_member (node l ss cs) h = refl

-- trees that are nodes of their own where they stand

member_part : (t : Tree) → member_tree_is t ≡ true → part_of_call_is t ≡ true
member_part (node (tree.Dot k) ss cs) h = refl
member_part (node tree.Index ss cs) h = refl
member_part (node l ss cs) h = absurd (false≢true h)

eval_part : (t : Tree) → eval_tree_is t ≡ true → part_of_call_is t ≡ true
eval_part (node (tree.Read x) ss cs) h = h
eval_part (node l ss cs) h = absurd (false≢true h)

-- a callee is plain exactly where it is no part of a call
pub plain_is : (t : Tree) (b : Bool) → (b ≡ true → part_of_call_is t ≡ false) → (b ≡ false → member_tree_is t ≡ false → eval_tree_is t ≡ true) → b ≡ not (part_of_call_is t)
plain_is t true h k = sym (ap not (h refl))
plain_is t false h k = by_member (member_tree_is t) refl
  where
    by_member : (m : Bool) → member_tree_is t ≡ m → false ≡ not (part_of_call_is t)
    by_member true e = sym (ap not (member_part t e))
    by_member false e = sym (ap not (eval_part t (k refl e)))

none_if_not : (b : Bool) → not b ≡ true → b ≡ false
none_if_not false h = refl
none_if_not true h = absurd (false≢true h)

some_if_not : (b : Bool) → not b ≡ false → b ≡ true
some_if_not true h = refl
some_if_not false h = absurd (false≢true (sym h))

callee_fits : (t : Tree) → part_of_call_is t ≡ false → Fits place.Callee t
callee_fits (node l ss cs) h = h

operand_fits : (t : Tree) → name_tree_is t ≡ false → Fits place.TypeOf t
operand_fits (node l ss cs) h = h

deleted_fits : (t : Tree) → member_tree_is t ≡ false → Fits place.Delete t
deleted_fits (node l ss cs) h = h

pub alone_fits : (p : Place) (t : Tree) → stands_alone p t ≡ true → Fits p t
alone_fits place.Callee t h = callee_fits t (none_if_not (part_of_call_is t) h)
alone_fits place.TypeOf t h = operand_fits t (none_if_not (name_tree_is t) h)
alone_fits place.Delete t h = deleted_fits t (none_if_not (member_tree_is t) h)
alone_fits place.Value t h = tt
alone_fits place.Statement t h = tt
alone_fits place.Part t h = tt

part_bare : (t : Tree) → part_of_call_is t ≡ true → is_bare t ≡ true
part_bare (node (tree.Dot k) ss cs) h = refl
part_bare (node tree.Index ss cs) h = refl
part_bare (node (tree.Read x) ss cs) h = refl
part_bare (node l ss cs) h = absurd (false≢true h)

-- what does not stand alone is a member or a name
pub other_bare : (p : Place) (t : Tree) → stands_alone p t ≡ false → is_bare t ≡ true
other_bare place.Callee t h = part_bare t (some_if_not (part_of_call_is t) h)
other_bare place.TypeOf t h = or_right (member_tree_is t) (name_tree_is t) (some_if_not (name_tree_is t) h)
other_bare place.Delete t h = or_left (member_tree_is t) (name_tree_is t) (some_if_not (member_tree_is t) h)
other_bare place.Value t h = absurd (false≢true (sym h))
other_bare place.Statement t h = absurd (false≢true (sym h))
other_bare place.Part t h = absurd (false≢true (sym h))
