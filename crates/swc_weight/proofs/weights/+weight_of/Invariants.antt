use Rattle.std.proofs.Common.{◌≡◌, ◌+◌, ◌-◌, ◌^◌, ◌<◌, ◌≤◌, min}
use Rattle.swc_ast.specs.Weight.{weight, weight_all}
use Rattle.tree_visit.specs.Nodes.{node_tree, children_forest}
use Rattle.tree_visit.proofs.Caps.{tree_size, forest_size}
use Rattle.swc_weight.proofs.weights.+weight_of.Given as goal

abbrev pub decreases-weight_of : goal.decreases-weight_of
decreases-weight_of l = tree_size (node_tree l.n)

abbrev pub invariant-loop-child : goal.invariant-loop-child
invariant-loop-child l = (min (l.total + weight_all (children_forest l.left)) (2 ^ 64 - 1) ≡ min (weight (node_tree l.n)) (2 ^ 64 - 1)) × (l.total ≤ 2 ^ 64 - 1) × (forest_size (children_forest l.left) < tree_size (node_tree l.n))

abbrev pub decreases-loop-child : goal.decreases-loop-child
decreases-loop-child l = forest_size (children_forest l.left)
