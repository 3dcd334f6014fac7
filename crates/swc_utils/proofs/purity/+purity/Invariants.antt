use Rattle.std.proofs.Common.{◌≡◌, not, ◌&&◌, map, ◌+◌, ◌*◌, drop}
use Rattle.swc_ast.specs.Parts.{list_trees}
use Rattle.swc_ast.specs.Expressions.{item_kind, item_trees}
use Rattle.swc_ast.specs.Views.{expr_tree, prop_or_spread_tree}
use Rattle.swc_ast.proofs.Sizes.{size_of_key}
use Rattle.swc_utils.specs.Globals.{unresolved}
use Rattle.swc_utils.specs.Pure.{pure_all, has_spread}
use Rattle.swc_utils.proofs.purity.+purity.Given as goal

abbrev pub decreases-is_pure : goal.decreases-is_pure
decreases-is_pure l = 4 * goal.size-is_pure l

abbrev pub decreases-are_pure : goal.decreases-are_pure
decreases-are_pure l = 4 * goal.size-are_pure l + 1

abbrev pub decreases-are_items_pure : goal.decreases-are_items_pure
decreases-are_items_pure l = 4 * goal.size-are_items_pure l + 1

abbrev pub decreases-are_props_pure : goal.decreases-are_props_pure
decreases-are_props_pure l = 4 * goal.size-are_props_pure l + 1

abbrev pub decreases-is_prop_pure : goal.decreases-is_prop_pure
decreases-is_prop_pure l = 4 * goal.size-is_prop_pure l

abbrev pub decreases-is_key_pure : goal.decreases-is_key_pure
decreases-is_key_pure l = 4 * size_of_key l.key.now + 2

abbrev pub invariant-are_pure-loop-e : goal.invariant-are_pure-loop-e
invariant-are_pure-loop-e l = pure_all (unresolved l.ctx) (list_trees expr_tree (drop l.e-index l.es)) ≡ pure_all (unresolved l.ctx) (list_trees expr_tree l.es)

abbrev pub invariant-are_items_pure-loop-item : goal.invariant-are_items_pure-loop-item
invariant-are_items_pure-loop-item l = (not (has_spread (map item_kind (drop l.item-index l.items))) && pure_all (unresolved l.ctx) (item_trees expr_tree (drop l.item-index l.items))) ≡ (not (has_spread (map item_kind l.items)) && pure_all (unresolved l.ctx) (item_trees expr_tree l.items))

abbrev pub invariant-are_props_pure-loop-prop : goal.invariant-are_props_pure-loop-prop
invariant-are_props_pure-loop-prop l = pure_all (unresolved l.ctx) (list_trees prop_or_spread_tree (drop l.prop-index l.props)) ≡ pure_all (unresolved l.ctx) (list_trees prop_or_spread_tree l.props)
