use Rattle.std.proofs.Common.{◌≤◌}
use Rattle.tree_visit.specs.Nodes.{children_forest}
use Rattle.tree_visit.proofs.Caps.{forest_size}
use Rattle.dce_uses.proofs.Adding.{Going}
use Rattle.dce_uses.proofs.Counting.{declared_hidden}
use Rattle.dce_uses.proofs.table.Table.+hide_declared.Given as goal

abbrev pub decreases-hide_declared : goal.decreases-hide_declared
decreases-hide_declared l = forest_size (children_forest l.children)

abbrev pub invariant-loop-child : goal.invariant-loop-child
invariant-loop-child l =
    Going l.initial.self l.self (declared_hidden (children_forest l.children)) (declared_hidden (children_forest l.left))
    × (forest_size (children_forest l.left) ≤ forest_size (children_forest l.children))

abbrev pub decreases-loop-child : goal.decreases-loop-child
decreases-loop-child l = forest_size (children_forest l.left)
