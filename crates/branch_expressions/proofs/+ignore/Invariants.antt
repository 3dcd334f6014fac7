use Rattle.std.proofs.Common.{◌+◌, ◌*◌, take}
use Rattle.swc_ast.specs.Expressions.{item_trees}
use Rattle.swc_ast.specs.Parts.{list_trees}
use Rattle.swc_ast.specs.Views.{expr_tree, prop_or_spread_tree}
use Rattle.swc_utils.specs.Globals.{unresolved}
use Rattle.branch_rules.specs.Ignored.{properties_parts}
use Rattle.branch_expressions.specs.Left.{Adds, AddsItems}
use Rattle.branch_expressions.proofs.+ignore.Given as goal

abbrev pub decreases-ignored::rest_of : goal.decreases-ignored::rest_of
decreases-ignored::rest_of l = 16 * goal.size-ignored::rest_of l

abbrev pub decreases-ignored::left_of : goal.decreases-ignored::left_of
decreases-ignored::left_of l = 16 * goal.size-ignored::left_of l + 1

abbrev pub decreases-parts::add : goal.decreases-parts::add
decreases-parts::add l = 16 * goal.size-parts::add l + 1

abbrev pub decreases-parts::add_item : goal.decreases-parts::add_item
decreases-parts::add_item l = 16 * goal.size-parts::add_item l + 2

abbrev pub decreases-parts::add_all : goal.decreases-parts::add_all
decreases-parts::add_all l = 16 * goal.size-parts::add_all l + 2

abbrev pub decreases-parts::add_items : goal.decreases-parts::add_items
decreases-parts::add_items l = 16 * goal.size-parts::add_items l + 3

abbrev pub decreases-operators::rest_of_unary : goal.decreases-operators::rest_of_unary
decreases-operators::rest_of_unary l = 16 * goal.size-operators::rest_of_unary l + 2

abbrev pub decreases-operators::rest_of_guarded : goal.decreases-operators::rest_of_guarded
decreases-operators::rest_of_guarded l = 16 * goal.size-operators::rest_of_guarded l + 2

abbrev pub decreases-operators::rest_of_choice : goal.decreases-operators::rest_of_choice
decreases-operators::rest_of_choice l = 16 * goal.size-operators::rest_of_choice l + 3

abbrev pub decreases-operators::rest_of_pure : goal.decreases-operators::rest_of_pure
decreases-operators::rest_of_pure l = 16 * goal.size-operators::rest_of_pure l + 2

abbrev pub decreases-operators::rest_of_binary : goal.decreases-operators::rest_of_binary
decreases-operators::rest_of_binary l = 16 * goal.size-operators::rest_of_binary l + 4

abbrev pub decreases-operators::rest_of_arms : goal.decreases-operators::rest_of_arms
decreases-operators::rest_of_arms l = 16 * goal.size-operators::rest_of_arms l + 2

abbrev pub decreases-operators::rest_of_cond : goal.decreases-operators::rest_of_cond
decreases-operators::rest_of_cond l = 16 * goal.size-operators::rest_of_cond l + 3

abbrev pub decreases-lists::rest_of_sequence : goal.decreases-lists::rest_of_sequence
decreases-lists::rest_of_sequence l = 16 * goal.size-lists::rest_of_sequence l + 3

abbrev pub decreases-lists::rest_of_template : goal.decreases-lists::rest_of_template
decreases-lists::rest_of_template l = 16 * goal.size-lists::rest_of_template l + 3

abbrev pub decreases-lists::rest_of_call : goal.decreases-lists::rest_of_call
decreases-lists::rest_of_call l = 16 * goal.size-lists::rest_of_call l + 3

abbrev pub decreases-lists::rest_of_new : goal.decreases-lists::rest_of_new
decreases-lists::rest_of_new l = 16 * goal.size-lists::rest_of_new l + 3

abbrev pub decreases-lists::keep_plain : goal.decreases-lists::keep_plain
decreases-lists::keep_plain l = 16 * goal.size-lists::keep_plain l + 1

abbrev pub decreases-lists::keep_item : goal.decreases-lists::keep_item
decreases-lists::keep_item l = 16 * goal.size-lists::keep_item l + 2

abbrev pub decreases-lists::keep_items : goal.decreases-lists::keep_items
decreases-lists::keep_items l = 16 * goal.size-lists::keep_items l + 3

abbrev pub decreases-lists::rest_of_spread : goal.decreases-lists::rest_of_spread
decreases-lists::rest_of_spread l = 16 * goal.size-lists::rest_of_spread l + 4

abbrev pub decreases-lists::rest_of_array : goal.decreases-lists::rest_of_array
decreases-lists::rest_of_array l = 16 * goal.size-lists::rest_of_array l + 5

abbrev pub decreases-objects::add_key : goal.decreases-objects::add_key
decreases-objects::add_key l = 16 * goal.size-objects::add_key l + 2

abbrev pub decreases-objects::add_prop : goal.decreases-objects::add_prop
decreases-objects::add_prop l = 16 * goal.size-objects::add_prop l + 3

abbrev pub decreases-objects::add_props : goal.decreases-objects::add_props
decreases-objects::add_props l = 16 * goal.size-objects::add_props l + 4

abbrev pub decreases-objects::rest_of_object : goal.decreases-objects::rest_of_object
decreases-objects::rest_of_object l = 16 * goal.size-objects::rest_of_object l + 5

abbrev pub invariant-parts::add_all-loop-i : goal.invariant-parts::add_all-loop-i
invariant-parts::add_all-loop-i l = goal.unvisited-parts::add_all-loop-i l × Adds (unresolved l.ctx) (list_trees expr_tree (take l.i l.initial.es.items)) l.initial.out.items l.out.items l.changed

abbrev pub invariant-parts::add_items-loop-i : goal.invariant-parts::add_items-loop-i
invariant-parts::add_items-loop-i l = goal.unvisited-parts::add_items-loop-i l × Adds (unresolved l.ctx) (item_trees expr_tree (take l.i l.initial.items.items)) l.initial.out.items l.out.items l.changed

abbrev pub invariant-lists::keep_items-loop-i : goal.invariant-lists::keep_items-loop-i
invariant-lists::keep_items-loop-i l = goal.unvisited-lists::keep_items-loop-i l × AddsItems (unresolved l.ctx) (take l.i l.initial.items.items) l.initial.out.items l.out.items l.changed

abbrev pub invariant-objects::add_props-loop-i : goal.invariant-objects::add_props-loop-i
invariant-objects::add_props-loop-i l = goal.unvisited-objects::add_props-loop-i l × Adds (unresolved l.ctx) (properties_parts (unresolved l.ctx) (list_trees prop_or_spread_tree (take l.i l.initial.props.items))) l.initial.out.items l.out.items l.changed
