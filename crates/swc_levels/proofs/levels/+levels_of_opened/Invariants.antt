use Rattle.std.proofs.Common.{◌≡◌, ◌+◌, ◌≤◌, max}
use Rattle.tree_visit.specs.Nodes.{children_forest}
use Rattle.tree_visit.proofs.Caps.{forest_size}
use Rattle.swc_levels.specs.Levels.{deepest}
use Rattle.swc_levels.proofs.levels.+levels_of_opened.Given as goal

abbrev pub decreases-levels_of_opened : goal.decreases-levels_of_opened
decreases-levels_of_opened l = forest_size (children_forest l.n.children)

abbrev pub invariant-loop-child : goal.invariant-loop-child
invariant-loop-child l = (max l.highest (deepest (children_forest l.left)) ≡ deepest (children_forest l.fn.n.children)) × (l.highest + l.own ≤ l.fn.most) × (forest_size (children_forest l.left) ≤ forest_size (children_forest l.fn.n.children))

abbrev pub decreases-loop-child : goal.decreases-loop-child
decreases-loop-child l = forest_size (children_forest l.left)
