use Rattle.std.proofs.Common.{◌≡◌, length}
use Rattle.swc_ast.specs.Parts.{list_trees}
use Rattle.swc_ast.specs.Views.{prop_or_spread_tree}
use Rattle.expr_rules.specs.Spreads.{has_proto}
use Rattle.expr_members.proofs.properties.has_proto.Given as goal

abbrev pub invariant-loop-left : goal.invariant-loop-left
invariant-loop-left l = has_proto (list_trees prop_or_spread_tree l.left) ≡ has_proto (list_trees prop_or_spread_tree l.props)

abbrev pub decreases-loop-left : goal.decreases-loop-left
decreases-loop-left l = length l.left
