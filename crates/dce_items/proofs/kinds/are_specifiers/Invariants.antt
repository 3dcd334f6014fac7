use Rattle.std.proofs.Common.{◌≡◌}
use Rattle.tree_visit.specs.Nodes.{children_forest}
use Rattle.tree_visit.proofs.Caps.{forest_size}
use Rattle.tree_walk.specs.Pass.{are_unvisited}
use Rattle.dce_items.proofs.kinds.are_specifiers.Given as goal

abbrev pub invariant-loop-child : goal.invariant-loop-child
invariant-loop-child l = are_unvisited (children_forest l.left) ≡ are_unvisited (children_forest l.children)

abbrev pub decreases-loop-child : goal.decreases-loop-child
decreases-loop-child l = forest_size (children_forest l.left)
