use Rattle.std.proofs.Common.{◌≡◌, ◌+◌, ◌-◌, ◌^◌, ◌≤◌, min}
use Rattle.swc_ast.specs.Weight.{movable}
use Rattle.tree_visit.specs.Nodes.{children_forest}
use Rattle.tree_visit.proofs.Caps.{forest_size}
use Rattle.swc_weight.proofs.weights.movable.Given as goal

abbrev pub invariant-loop-child : goal.invariant-loop-child
invariant-loop-child l = (min (l.count + movable (children_forest l.left)) (2 ^ 64 - 1) ≡ min (movable (children_forest l.children)) (2 ^ 64 - 1)) × (l.count ≤ 2 ^ 64 - 1)

abbrev pub decreases-loop-child : goal.decreases-loop-child
decreases-loop-child l = forest_size (children_forest l.left)
