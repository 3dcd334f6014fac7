-- What the walk makes of the parts that are no nodes of their own.
use Rattle.std.specs.Prelude.{Bool, true, false, not, ◌||◌, ◌≡◌, ◌∷◌, Option, Some, None}
use Rattle.std.specs.declared.alloc.Global.{Global}
use Rattle.std.specs.declared.boxed.Box.{Box}
use Rattle.swc_ast.specs.Labels.{is_name}
use Rattle.swc_ast.specs.Tree as tree
use Rattle.swc_ast.specs.Tree.{Tree, node, Forest, ε, ◌⊳◌}
use Rattle.swc_ast.specs.Parts.{then_all}
use Rattle.swc_ast.specs.Expressions.{is_eval, call_node, unary_node, update_node, assign_node}
use Rattle.swc_ast.specs.Views.{expr_tree}
use Rattle.swc_ast.specs.declared.AssignOp.{AssignOp}
use Rattle.swc_ast.specs.declared.Span.{Span}
use Rattle.swc_ast.specs.declared.UnaryOp.{UnaryOp}
use Rattle.swc_ast.specs.declared.UpdateOp.{UpdateOp}
use Rattle.swc_ast.specs.declared.expressions.AssignTarget.{AssignTarget}
use Rattle.swc_ast.specs.declared.expressions.Expr.{Expr}
use Rattle.swc_ast.specs.declared.expressions.ExprOrSpread.{ExprOrSpread}
use Rattle.swc_ast.specs.declared.expressions.MemberProp.{MemberProp}
use Rattle.swc_ast.specs.declared.expressions.MemberProp.TheVariants as prop
use Rattle.swc_ast.specs.declared.UnaryOp.TheVariants as op
use Rattle.tree_walk.specs.declared.rules.Place.{Place}
use Rattle.tree_walk.specs.declared.rules.Place.TheVariants as place
use Rattle.tree_walk.specs.Walks.{Walks, AllWalk, Inside, is_member, is_part_of_call}
use Rattle.tree_walk.specs.Pass.{Pass}

-- the same four of trees: a member, a name, a part of a call, the name `eval`
abbrev pub member_tree_is : Tree → Bool
member_tree_is (node l ss ts) = is_member l

abbrev pub name_tree_is : Tree → Bool
name_tree_is (node l ss ts) = is_name l

abbrev pub part_of_call_is : Tree → Bool
part_of_call_is (node l ss ts) = is_part_of_call l

abbrev pub eval_tree_is : Tree → Bool
eval_tree_is (node (tree.Read x) ss ts) = is_eval x
eval_tree_is t = false

-- a member or a name
abbrev pub is_bare : Tree → Bool
is_bare t = member_tree_is t || name_tree_is t

-- the operator `typeof`
abbrev pub is_typeof : UnaryOp → Bool
is_typeof op.TypeOf = true
is_typeof o = false

-- whether a tree is a node of its own where it stands
abbrev pub stands_alone : Place → Tree → Bool
stands_alone place.Callee t = not (part_of_call_is t)
stands_alone place.TypeOf t = not (name_tree_is t)
stands_alone place.Delete t = not (member_tree_is t)
stands_alone p t = true

-- where a part of an expression stands, by where the expression stands
abbrev pub part_of : Place → Place
part_of place.Callee = place.Part
part_of place.Part = place.Part
part_of p = place.Value

-- where the operand of an operator stands, by where the operator stands
abbrev pub operand_of : UnaryOp → Place → Place
operand_of op.TypeOf p = place.TypeOf
operand_of op.Delete p = place.Delete
operand_of o p = part_of p

-- an expression, if any
abbrev pub OptionWalks : {N : Type 0} → Pass → (N → Tree) → Option (Box N Global) → Option (Box N Global) → Bool → Type 0
OptionWalks X f None None c = c ≡ false
OptionWalks X f (Some a) (Some b) c = Walks X c (f a.value) (f b.value)
OptionWalks X f None (Some b) c = ⊥
OptionWalks X f (Some a) None c = ⊥

-- an item of an array
abbrev pub ItemWalks : Pass → Option (ExprOrSpread Expr) → Option (ExprOrSpread Expr) → Bool → Type 0
ItemWalks X None None c = c ≡ false
ItemWalks X (Some a) (Some b) c = (b.spread ≡ a.spread) × Walks X c (expr_tree a.expr.value) (expr_tree b.expr.value)
ItemWalks X None (Some b) c = ⊥
ItemWalks X (Some a) None c = ⊥

-- what stands behind the dot or in the brackets
abbrev pub PropWalks : Pass → MemberProp Expr → MemberProp Expr → Bool → Type 0
PropWalks X (prop.Ident a) (prop.Ident b) c = (b ≡ a) × (c ≡ false)
PropWalks X (prop.Computed a) (prop.Computed b) c = (b.span ≡ a.span) × Walks X c (expr_tree a.expr.value) (expr_tree b.expr.value)
PropWalks X (prop.Ident a) (prop.Computed b) c = ⊥
PropWalks X (prop.Computed a) (prop.Ident b) c = ⊥

-- a tree in place of a member, as the target of an update and of an assignment
abbrev pub update_of : UpdateOp → Bool → Span → Tree → Tree
update_of o b s (node (tree.Dot k) ss cs) = node (tree.UpdateDot o b k) (s ∷ ss) cs
update_of o b s (node l ss cs) = node (tree.UpdateIndex o b) (s ∷ ss) cs

abbrev pub assign_of : AssignOp → Span → Tree → Tree → Tree
assign_of o s (node (tree.Dot k) ss cs) v = node (tree.AssignDot o k) (s ∷ ss) (then_all cs (v ⊳ ε))
assign_of o s (node l ss cs) v = node (tree.AssignIndex o) (s ∷ ss) (then_all cs (v ⊳ ε))

-- what is written to: in an update, and in an assignment of any value
pub record TargetWalks (X : Pass) (t u : AssignTarget Expr) (c : Bool) : Type 0 where
  pub updated : (o : UpdateOp) (b : Bool) (s : Span) → Inside X c (update_node expr_tree o b s t) (update_node expr_tree o b s u)
  pub assigned : (o : AssignOp) (s : Span) (v w : Tree) (d : Bool) → Walks X d v w → Inside X (c || d) (assign_node expr_tree o s t v) (assign_node expr_tree o s u w)

-- a callee, in a call with any arguments
abbrev pub CalleeWalks : Pass → Tree → Tree → Bool → Type 0
CalleeWalks X t u c = (s : Span) (ts us : Forest) (d : Bool) → AllWalk X d ts us → Inside X (c || d) (call_node s t ts) (call_node s u us)

-- an operand
abbrev pub OperandWalks : Pass → UnaryOp → Tree → Tree → Bool → Type 0
OperandWalks X o t u c = (s : Span) → Inside X c (unary_node o s t) (unary_node o s u)
