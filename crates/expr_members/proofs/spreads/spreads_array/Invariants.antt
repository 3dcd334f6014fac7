use Rattle.std.proofs.Common.{◌≡◌, drop, map}
use Rattle.swc_ast.specs.Expressions.{item_kind, item_trees}
use Rattle.swc_ast.specs.Views.{expr_tree}
use Rattle.expr_rules.specs.Spreads.{spreads_array}
use Rattle.expr_members.proofs.spreads.spreads_array.Given as goal

abbrev pub invariant-loop-item : goal.invariant-loop-item
invariant-loop-item l = spreads_array (map item_kind (drop l.item-index l.items)) (item_trees expr_tree (drop l.item-index l.items)) ≡ spreads_array (map item_kind l.items) (item_trees expr_tree l.items)
