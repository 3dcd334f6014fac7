use Rattle.std.proofs.Common.{◌≤◌, ◌+◌, ◌*◌}
use Rattle.tree_visit.specs.Nodes.{node_tree, children_forest}
use Rattle.tree_visit.proofs.Caps.{tree_size, forest_size}
use Rattle.carry_vars.proofs.Counting.{Left}
use Rattle.carry_vars.proofs.vars.+count.Given as goal

abbrev pub decreases-count : goal.decreases-count
decreases-count l = tree_size (node_tree l.n) * 2

abbrev pub decreases-count_all : goal.decreases-count_all
decreases-count_all l = forest_size (children_forest l.children) * 2 + 1

abbrev pub invariant-count_all-loop-child : goal.invariant-count_all-loop-child
invariant-count_all-loop-child l = Left l.initial.table l.table (children_forest l.left) (children_forest l.children) × (forest_size (children_forest l.left) ≤ forest_size (children_forest l.children))

abbrev pub decreases-count_all-loop-child : goal.decreases-count_all-loop-child
decreases-count_all-loop-child l = forest_size (children_forest l.left)
