use Rattle.std.proofs.Common.{◌≡◌}
use Rattle.tree_visit.specs.Nodes.{children_forest}
use Rattle.tree_visit.proofs.Caps.{forest_size}
use Rattle.swc_resolved.specs.Scopes.{half_of}
use Rattle.swc_resolved.proofs.functions.half_of.Given as goal

abbrev pub invariant-loop-child : goal.invariant-loop-child
invariant-loop-child l = half_of l.half (children_forest l.left) ≡ half_of l.half (children_forest l.children)

abbrev pub decreases-loop-child : goal.decreases-loop-child
decreases-loop-child l = forest_size (children_forest l.left)
