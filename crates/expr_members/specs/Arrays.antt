-- Array literals and their items.
use Rattle.std.specs.Prelude.{◌≡◌, Bool, false, not, List, Option, map}
use Rattle.swc_ast.specs.Tree.{Array, Tree, node}
use Rattle.swc_ast.specs.Expressions.{item_kind, item_trees}
use Rattle.swc_ast.specs.Views.{expr_tree}
use Rattle.swc_ast.specs.declared.Span.{Span}
use Rattle.swc_ast.specs.declared.expressions.Expr.{Expr}
use Rattle.swc_ast.specs.declared.expressions.ExprOrSpread.{ExprOrSpread}
use Rattle.swc_utils.specs.Pure.{has_spread}

-- an array literal without a spread
abbrev pub is_plain_array : Tree → Bool
is_plain_array (node (Array ks) ss ts) = not (has_spread ks)
is_plain_array _ = false

-- an array literal of these items
abbrev pub HasItems : Tree → List (Option (ExprOrSpread Expr)) → Type 0
HasItems t xs = (ss : List Span) × (t ≡ node (Array (map item_kind xs)) ss (item_trees expr_tree xs))
