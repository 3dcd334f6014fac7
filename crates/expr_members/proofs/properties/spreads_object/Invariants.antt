use Rattle.std.proofs.Common.{◌≡◌, drop}
use Rattle.swc_ast.specs.Parts.{list_trees}
use Rattle.swc_ast.specs.Views.{prop_or_spread_tree}
use Rattle.expr_rules.specs.Spreads.{spreads_object}
use Rattle.expr_members.proofs.properties.spreads_object.Given as goal

abbrev pub invariant-loop-prop : goal.invariant-loop-prop
invariant-loop-prop l = spreads_object (list_trees prop_or_spread_tree (drop l.prop-index l.props)) ≡ spreads_object (list_trees prop_or_spread_tree l.props)
