-- Which nodes are literals, where their label is told by their parts.
use Rattle.std.proofs.Common.{◌≡◌, ℕ, ◌<◌, Bool, true, false, ◌&&◌, if◌then◌else◌, List, map, drop, length, Option, Some, refl, sym, ap, ◌∙◌, get_or}
use Rattle.swc_ast.specs.Tree as tree
use Rattle.swc_ast.specs.Tree.{Name, Tree, node, Forest, ◌⊳◌}
use Rattle.swc_ast.specs.Parts.{lit_tree}
use Rattle.swc_ast.specs.Expressions.{is_eval, unary_node, call_node, update_node, assign_node, member_node, member_tree}
use Rattle.swc_ast.specs.Views.{expr_tree}
use Rattle.swc_ast.specs.declared.Span.{Span}
use Rattle.swc_ast.specs.declared.UnaryOp.{UnaryOp}
use Rattle.swc_ast.specs.declared.UnaryOp.TheVariants as unary
use Rattle.swc_ast.specs.declared.UpdateOp.{UpdateOp}
use Rattle.swc_ast.specs.declared.AssignOp.{AssignOp}
use Rattle.swc_ast.specs.declared.literals.Lit.{Lit}
use Rattle.swc_ast.specs.declared.literals.Lit.TheVariants as lit
use Rattle.swc_ast.specs.declared.expressions.Expr.{Expr}
use Rattle.swc_ast.specs.declared.expressions.AssignTarget.{AssignTarget}
use Rattle.swc_ast.specs.declared.expressions.AssignTarget.TheVariants as target
use Rattle.swc_ast.specs.declared.expressions.MemberExpr.{MemberExpr}
use Rattle.swc_ast.specs.declared.expressions.MemberProp.{MemberProp}
use Rattle.swc_ast.specs.declared.expressions.MemberProp.TheVariants as prop
use Rattle.swc_ast.specs.Expressions.{item_kind, item_trees, key_value_tree}
use Rattle.swc_ast.specs.declared.expressions.ExprOrSpread.{ExprOrSpread}
use Rattle.swc_ast.specs.declared.expressions.KeyValueProp.{KeyValueProp}
use Rattle.swc_ast.specs.declared.expressions.PropName.{PropName}
use Rattle.swc_ast.specs.declared.expressions.PropName.TheVariants as key
use Rattle.swc_utils.specs.Literals.{is_literal, is_plain_key, all_plain, all_literal, literal_property}
use Rattle.swc_utils.proofs.PureNodes.{second_fails}
use Rattle.swc_utils.proofs.Items.{from_here}

pub literal-unary : (op : UnaryOp) (s : Span) (t : Tree) → is_literal (unary_node op s t) ≡ false
unfolding unary_node
literal-unary unary.TypeOf s (node (tree.Read x) ss cs) = refl
literal-unary unary.TypeOf s (node l ss cs) = refl
literal-unary op s t = refl

literal_eval : (x : Name) (b : Bool) (ss rs qs : List Span) (cs ts : Forest) → is_literal (if b then node (tree.CallEval x) ss ts else node tree.Call rs (node (tree.Read x) qs cs ⊳ ts)) ≡ false
literal_eval x true ss rs qs cs ts = refl
literal_eval x false ss rs qs cs ts = refl

pub literal-call : (s : Span) (f : Tree) (ts : Forest) → is_literal (call_node s f ts) ≡ false
unfolding call_node
literal-call s (node (tree.Dot k) ss cs) ts = refl
literal-call s (node tree.Index ss cs) ts = refl
literal-call s (node (tree.Read x) ss cs) ts = literal_eval x (is_eval x) _ _ _ cs ts
literal-call s (node l ss cs) ts = refl

pub literal-update : (o : UpdateOp) (b : Bool) (s : Span) (t : AssignTarget Expr) → is_literal (update_node expr_tree o b s t) ≡ false
literal-update o b s (target.Ident n) = refl
literal-update o b s (target.Member n) = by_prop n.prop
  where
    by_prop : (p : MemberProp Expr) → is_literal (update_node expr_tree o b s (target.Member (record n { prop = p }))) ≡ false
    by_prop (prop.Ident k) = refl
    by_prop (prop.Computed k) = refl

pub literal-assign : (o : AssignOp) (s : Span) (t : AssignTarget Expr) (v : Tree) → is_literal (assign_node expr_tree o s t v) ≡ false
literal-assign o s (target.Ident n) v = refl
literal-assign o s (target.Member n) v = by_prop n.prop
  where
    by_prop : (p : MemberProp Expr) → is_literal (assign_node expr_tree o s (target.Member (record n { prop = p })) v) ≡ false
    by_prop (prop.Ident k) = refl
    by_prop (prop.Computed k) = refl

literal_member : (s : Span) (x : Expr) (p : MemberProp Expr) → is_literal (member_node expr_tree s x p) ≡ false
literal_member s x (prop.Ident k) = refl
literal_member s x (prop.Computed k) = refl

pub literal-member : (n : MemberExpr Expr) → is_literal (member_tree expr_tree n) ≡ false
literal-member n = literal_member n.span n.obj.value n.prop

pub literal-lit : (n : Lit) → is_literal (lit_tree n) ≡ true
literal-lit (lit.Str n) = refl
literal-lit (lit.Bool n) = refl
literal-lit (lit.Null n) = refl
literal-lit (lit.Num n) = refl

pub ruleset literal_nodes = (
  literal-unary,
  literal-call,
  literal-update,
  literal-assign,
  literal-member,
  literal-lit,
)

pub literal_key_value : (n : KeyValueProp Expr) → literal_property (key_value_tree expr_tree n) ≡ (is_plain_key n.key && is_literal (expr_tree n.value.value))
literal_key_value n = by_key n.key
  where
    by_key : (k : PropName Expr) → literal_property (key_value_tree expr_tree (record n { key = k })) ≡ (is_plain_key k && is_literal (expr_tree n.value.value))
    by_key (key.Ident i) = refl
    by_key (key.Str i) = refl
    by_key (key.Num i) = refl
    by_key (key.Computed i) = refl

-- neither holes nor spreads among the items, and all of them literals
abbrev pub items_literal : List (Option (ExprOrSpread Expr)) → Bool
items_literal xs = all_plain (map item_kind xs) && all_literal (item_trees expr_tree xs)

pub items_fail : (xs : List (Option (ExprOrSpread Expr))) (i : ℕ) (o : Option (ExprOrSpread Expr)) (n : ExprOrSpread Expr) (g : Bool) → i < length xs → o ≡ get_or xs i o → o ≡ Some n → is_literal (expr_tree n.expr.value) ≡ false → items_literal (drop i xs) ≡ g → false ≡ g
items_fail xs i o n g within at is fails h = sym (ap items_literal (from_here xs i o (Some n) within at is) ∙ second_fails _ _ _ fails) ∙ h
