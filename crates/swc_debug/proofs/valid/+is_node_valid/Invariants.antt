use Rattle.std.proofs.Common.{◌≡◌, ◌<◌}
use Rattle.swc_ast.specs.Valid.{valid, valid_all}
use Rattle.tree_visit.specs.Nodes.{node_tree, children_forest}
use Rattle.tree_visit.proofs.Caps.{tree_size, forest_size}
use Rattle.swc_debug.proofs.valid.+is_node_valid.Given as goal

abbrev pub decreases-is_node_valid : goal.decreases-is_node_valid
decreases-is_node_valid l = tree_size (node_tree l.n)

abbrev pub invariant-loop-child : goal.invariant-loop-child
invariant-loop-child l = (valid_all (children_forest l.left) ≡ valid (node_tree l.n)) × (forest_size (children_forest l.left) < tree_size (node_tree l.n))

abbrev pub decreases-loop-child : goal.decreases-loop-child
decreases-loop-child l = forest_size (children_forest l.left)
