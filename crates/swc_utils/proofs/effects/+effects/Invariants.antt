use Rattle.std.proofs.Common.{◌≡◌, false, ◌+◌, ◌*◌, drop}
use Rattle.swc_ast.specs.Parts.{list_trees}
use Rattle.swc_ast.specs.Scope.{joined}
use Rattle.swc_ast.specs.Expressions.{item_trees}
use Rattle.swc_ast.specs.Views.{expr_tree, prop_or_spread_tree}
use Rattle.swc_ast.proofs.Sizes.{size_of_key}
use Rattle.swc_utils.specs.Globals.{unresolved}
use Rattle.swc_utils.specs.Effects.{effects_all, has_record_spread}
use Rattle.swc_utils.proofs.effects.+effects.Given as goal

abbrev pub decreases-push_effects : goal.decreases-push_effects
decreases-push_effects l = 4 * goal.size-push_effects l

abbrev pub decreases-push_all : goal.decreases-push_all
decreases-push_all l = 4 * goal.size-push_all l + 1

abbrev pub decreases-push_items : goal.decreases-push_items
decreases-push_items l = 4 * goal.size-push_items l + 1

abbrev pub decreases-push_props : goal.decreases-push_props
decreases-push_props l = 4 * goal.size-push_props l + 1

abbrev pub decreases-push_prop : goal.decreases-push_prop
decreases-push_prop l = 4 * goal.size-push_prop l

abbrev pub decreases-push_key : goal.decreases-push_key
decreases-push_key l = 4 * size_of_key l.key.now + 2

abbrev pub invariant-push_all-loop-e : goal.invariant-push_all-loop-e
invariant-push_all-loop-e l = joined (list_trees expr_tree l.all.items) (effects_all (unresolved l.ctx) (list_trees expr_tree (drop l.e-index l.es))) ≡ joined (list_trees expr_tree l.fn.out.items) (effects_all (unresolved l.ctx) (list_trees expr_tree l.es))

abbrev pub invariant-push_items-loop-item : goal.invariant-push_items-loop-item
invariant-push_items-loop-item l = joined (list_trees expr_tree l.all.items) (effects_all (unresolved l.ctx) (item_trees expr_tree (drop l.item-index l.items))) ≡ joined (list_trees expr_tree l.fn.out.items) (effects_all (unresolved l.ctx) (item_trees expr_tree l.items))

abbrev pub invariant-push_props-loop-prop : goal.invariant-push_props-loop-prop
invariant-push_props-loop-prop l = record {
  pushed : joined (list_trees expr_tree l.all.items) (effects_all (unresolved l.ctx) (list_trees prop_or_spread_tree (drop l.prop-index l.props))) ≡ joined (list_trees expr_tree l.fn.out.items) (effects_all (unresolved l.ctx) (list_trees prop_or_spread_tree l.props));
  plain : has_record_spread (list_trees prop_or_spread_tree (drop l.prop-index l.props)) ≡ false;
}
