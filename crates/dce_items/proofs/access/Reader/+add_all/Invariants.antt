use Rattle.std.proofs.Common.{◌≤◌}
use Rattle.tree_visit.specs.Nodes.{children_forest}
use Rattle.tree_visit.proofs.Caps.{forest_size}
use Rattle.dce_items.proofs.access.Reader.+add_all.Given as goal

abbrev pub decreases-add_all : goal.decreases-add_all
decreases-add_all l = forest_size (children_forest l.children)

abbrev pub invariant-loop-child : goal.invariant-loop-child
invariant-loop-child l = forest_size (children_forest l.left) ≤ forest_size (children_forest l.children)

abbrev pub decreases-loop-child : goal.decreases-loop-child
decreases-loop-child l = forest_size (children_forest l.left)
