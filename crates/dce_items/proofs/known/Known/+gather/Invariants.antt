use Rattle.std.proofs.Common.{◌≤◌, ◌+◌, ◌*◌}
use Rattle.tree_visit.specs.Nodes.{children_forest}
use Rattle.tree_visit.proofs.Caps.{forest_size}
use Rattle.dce_items.proofs.Gathering.{Left}
use Rattle.dce_items.proofs.known.Known.+gather.Given as goal

abbrev pub decreases-gather_inside : goal.decreases-gather_inside
decreases-gather_inside l = forest_size (children_forest l.opened.children) * 3 + 3

abbrev pub decreases-gather_child : goal.decreases-gather_child
decreases-gather_child l = forest_size (children_forest l.opened.children) * 3 + 4

abbrev pub decreases-gather : goal.decreases-gather
decreases-gather l = forest_size (children_forest l.children) * 3 + 2

abbrev pub invariant-gather-loop-child : goal.invariant-gather-loop-child
invariant-gather-loop-child l =
    Left l.self l.initial.goers.items l.goers.items l.head l.first l.listed (children_forest l.children) (children_forest l.left)
    × (forest_size (children_forest l.left) ≤ forest_size (children_forest l.children))

abbrev pub decreases-gather-loop-child : goal.decreases-gather-loop-child
decreases-gather-loop-child l = forest_size (children_forest l.left)
