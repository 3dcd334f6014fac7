-- How deep the node is, and which function may call which at the same node.
use Rattle.std.proofs.Common.{ℕ, List, drop, ◌+◌, ◌*◌}
use Rattle.swc_ast.specs.Parts.{list_trees}
use Rattle.std.specs.Prelude.{map}
use Rattle.swc_ast.specs.Expressions.{quasi_text, item_kind, item_trees}
use Rattle.swc_ast.specs.Views.{expr_tree, prop_or_spread_tree}
use Rattle.text_match.specs.Grammar.{Others, Parts, Items, Properties}
use Rattle.text_match.proofs.expressions.+matching.Given as goal

abbrev pub decreases-after_bare : goal.decreases-after_bare
decreases-after_bare l = 16 * goal.size-after_bare l

abbrev pub decreases-after_expr : goal.decreases-after_expr
decreases-after_expr l = 16 * goal.size-after_expr l + 2

abbrev pub decreases-after_unary_expr : goal.decreases-after_unary_expr
decreases-after_unary_expr l = 16 * goal.size-after_unary_expr l + 4

abbrev pub decreases-after_bin : goal.decreases-after_bin
decreases-after_bin l = 16 * goal.size-after_bin l + 4

abbrev pub decreases-after_cond : goal.decreases-after_cond
decreases-after_cond l = 16 * goal.size-after_cond l + 4

abbrev pub decreases-after_member : goal.decreases-after_member
decreases-after_member l = 16 * goal.size-after_member l + 4

abbrev pub decreases-after_row : goal.decreases-after_row
decreases-after_row l = 16 * goal.size-after_row l + 4

abbrev pub decreases-after_arguments : goal.decreases-after_arguments
decreases-after_arguments l = 16 * goal.size-after_arguments l + 5

abbrev pub decreases-after_call : goal.decreases-after_call
decreases-after_call l = 16 * goal.size-after_call l + 6

abbrev pub decreases-after_seq : goal.decreases-after_seq
decreases-after_seq l = 16 * goal.size-after_seq l + 6

abbrev pub decreases-after_others : goal.decreases-after_others
decreases-after_others l = 16 * goal.size-after_others l + 3

-- what is written from here on completes what was before
abbrev pub invariant-after_others-loop-expr : goal.invariant-after_others-loop-expr
invariant-after_others-loop-expr l = (e : List ℕ) → Others (list_trees expr_tree (drop l.expr-index l.exprs)) l.rest e → Others (list_trees expr_tree l.fn.exprs) l.fn.text e

abbrev pub decreases-after_binary_expr : goal.decreases-after_binary_expr
decreases-after_binary_expr l = 16 * goal.size-after_binary_expr l + 6

abbrev pub decreases-after_coalesce : goal.decreases-after_coalesce
decreases-after_coalesce l = 16 * goal.size-after_coalesce l + 4

abbrev pub decreases-after_new : goal.decreases-after_new
decreases-after_new l = 16 * goal.size-after_new l + 6

abbrev pub decreases-after_target : goal.decreases-after_target
decreases-after_target l = 16 * goal.size-after_target l + 6

abbrev pub decreases-after_update : goal.decreases-after_update
decreases-after_update l = 16 * goal.size-after_update l + 7

abbrev pub decreases-after_assign : goal.decreases-after_assign
decreases-after_assign l = 16 * goal.size-after_assign l + 7

abbrev pub decreases-after_template : goal.decreases-after_template
decreases-after_template l = 16 * goal.size-after_template l + 6

abbrev pub decreases-after_parts : goal.decreases-after_parts
decreases-after_parts l = 16 * goal.size-after_parts l + 3

abbrev pub decreases-after_array : goal.decreases-after_array
decreases-after_array l = 16 * goal.size-after_array l + 8

abbrev pub decreases-after_item : goal.decreases-after_item
decreases-after_item l = 16 * goal.size-after_item l + 3

abbrev pub decreases-after_listed_item : goal.decreases-after_listed_item
decreases-after_listed_item l = 16 * goal.size-after_listed_item l + 4

abbrev pub decreases-after_listed : goal.decreases-after_listed
decreases-after_listed l = 16 * goal.size-after_listed l + 5

abbrev pub decreases-after_items : goal.decreases-after_items
decreases-after_items l = 16 * goal.size-after_items l + 6

abbrev pub decreases-after_object : goal.decreases-after_object
decreases-after_object l = 16 * goal.size-after_object l + 11

abbrev pub decreases-after_listed_property : goal.decreases-after_listed_property
decreases-after_listed_property l = 16 * goal.size-after_listed_property l + 8

abbrev pub decreases-after_properties : goal.decreases-after_properties
decreases-after_properties l = 16 * goal.size-after_properties l + 9

abbrev pub decreases-after_property : goal.decreases-after_property
decreases-after_property l = 16 * goal.size-after_property l + 7

abbrev pub decreases-after_spread : goal.decreases-after_spread
decreases-after_spread l = 16 * goal.size-after_spread l + 4

abbrev pub decreases-after_prop : goal.decreases-after_prop
decreases-after_prop l = 16 * goal.size-after_prop l + 6

abbrev pub decreases-after_value : goal.decreases-after_value
decreases-after_value l = 16 * goal.size-after_value l + 3

abbrev pub decreases-after_key_value : goal.decreases-after_key_value
decreases-after_key_value l = 16 * goal.size-after_key_value l + 5

abbrev pub invariant-after_parts-loop-expr : goal.invariant-after_parts-loop-expr
invariant-after_parts-loop-expr l = (e : List ℕ) → Parts (map quasi_text l.left) (list_trees expr_tree (drop l.expr-index l.exprs)) l.rest e → Parts (map quasi_text l.fn.quasis) (list_trees expr_tree l.fn.exprs) l.fn.text e

abbrev pub invariant-after_items-loop-i : goal.invariant-after_items-loop-i
invariant-after_items-loop-i l = (e : List ℕ) → Items (map item_kind (drop l.i l.fn.items)) (item_trees expr_tree (drop l.i l.fn.items)) l.rest e → Items (map item_kind l.fn.items) (item_trees expr_tree l.fn.items) l.fn.text e

abbrev pub invariant-after_properties-loop-i : goal.invariant-after_properties-loop-i
invariant-after_properties-loop-i l = (e : List ℕ) → Properties (list_trees prop_or_spread_tree (drop l.i l.fn.props)) l.rest e → Properties (list_trees prop_or_spread_tree l.fn.props) l.fn.text e
