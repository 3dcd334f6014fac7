use Rattle.std.proofs.Common.{◌+◌}
use Rattle.tree_visit.specs.Nodes.{children_forest}
use Rattle.tree_visit.proofs.Caps.{forest_size}
use Rattle.swc_expr_map.proofs.leading.+leading_name.Given as goal

abbrev pub decreases-leading_name : goal.decreases-leading_name
decreases-leading_name l = forest_size (children_forest l.chain.children) + 1

abbrev pub decreases-object_name : goal.decreases-object_name
decreases-object_name l = forest_size (children_forest l.children)
