use Rattle.std.proofs.Common.{◌≡◌}
use Rattle.std.specs.Vec.Iter.{into_iter_items}
use Rattle.swc_ast.specs.Parts.{list_trees}
use Rattle.swc_ast.specs.Scope.{joined}
use Rattle.swc_ast.specs.Views.{prop_or_spread_tree}
use Rattle.expr_rules.specs.Spreads.{opened_properties}
use Rattle.expr_members.proofs.properties.opened.Given as goal

abbrev pub invariant-loop-prop : goal.invariant-loop-prop
invariant-loop-prop l = joined (list_trees prop_or_spread_tree l.out.items) (opened_properties (list_trees prop_or_spread_tree (into_iter_items l.prop-iterator))) ≡ opened_properties (list_trees prop_or_spread_tree l.fn.props.items)
