use Rattle.std.proofs.Common.{◌≡◌, ◌&&◌, map, ◌+◌, ◌*◌, drop}
use Rattle.swc_ast.specs.Parts.{list_trees}
use Rattle.swc_ast.specs.Expressions.{item_kind, item_trees}
use Rattle.swc_ast.specs.Views.{expr_tree, prop_or_spread_tree}
use Rattle.swc_utils.specs.Literals.{all_plain, all_literal, literal_properties}
use Rattle.swc_utils.proofs.literals.+literals.Given as goal

abbrev pub decreases-is_literal : goal.decreases-is_literal
decreases-is_literal l = 2 * goal.size-is_literal l

abbrev pub decreases-are_items_literal : goal.decreases-are_items_literal
decreases-are_items_literal l = 2 * goal.size-are_items_literal l + 1

abbrev pub decreases-are_props_literal : goal.decreases-are_props_literal
decreases-are_props_literal l = 2 * goal.size-are_props_literal l + 1

abbrev pub decreases-is_prop_literal : goal.decreases-is_prop_literal
decreases-is_prop_literal l = 2 * goal.size-is_prop_literal l

abbrev pub invariant-are_items_literal-loop-item : goal.invariant-are_items_literal-loop-item
invariant-are_items_literal-loop-item l = (all_plain (map item_kind (drop l.item-index l.items)) && all_literal (item_trees expr_tree (drop l.item-index l.items))) ≡ (all_plain (map item_kind l.items) && all_literal (item_trees expr_tree l.items))

abbrev pub invariant-are_props_literal-loop-prop : goal.invariant-are_props_literal-loop-prop
invariant-are_props_literal-loop-prop l = literal_properties (list_trees prop_or_spread_tree (drop l.prop-index l.props)) ≡ literal_properties (list_trees prop_or_spread_tree l.props)
