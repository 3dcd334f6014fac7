use Rattle.std.proofs.Common.{◌≡◌}
use Rattle.swc_ast.specs.Weight.{unreached}
use Rattle.tree_visit.specs.Nodes.{children_forest}
use Rattle.tree_visit.proofs.Caps.{forest_size}
use Rattle.swc_weight.proofs.weights.unreached.Given as goal

abbrev pub invariant-loop-child : goal.invariant-loop-child
invariant-loop-child l = unreached (children_forest l.left) ≡ unreached (children_forest l.children)

abbrev pub decreases-loop-child : goal.decreases-loop-child
decreases-loop-child l = forest_size (children_forest l.left)
