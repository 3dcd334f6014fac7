use Rattle.std.proofs.Common.{length}
use Rattle.swc_ast.specs.Parts.{list_trees}
use Rattle.swc_ast.specs.Views.{prop_or_spread_tree}
use Rattle.dce_rules.specs.Shakes.{NamesOnly}
use Rattle.dce_code.proofs.objects.all_name.Given as goal

abbrev pub invariant-loop-left : goal.invariant-loop-left
invariant-loop-left l = NamesOnly (list_trees prop_or_spread_tree l.left) → NamesOnly (list_trees prop_or_spread_tree l.props)

abbrev pub decreases-loop-left : goal.decreases-loop-left
decreases-loop-left l = length l.left
