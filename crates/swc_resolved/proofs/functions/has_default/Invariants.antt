use Rattle.std.proofs.Common.{◌≡◌}
use Rattle.swc_ast.specs.Resolved.{has_default}
use Rattle.tree_visit.specs.Nodes.{children_forest}
use Rattle.tree_visit.proofs.Caps.{forest_size}
use Rattle.swc_resolved.proofs.functions.has_default.Given as goal

abbrev pub invariant-loop-child : goal.invariant-loop-child
invariant-loop-child l = has_default (children_forest l.left) ≡ has_default (children_forest l.params)

abbrev pub decreases-loop-child : goal.decreases-loop-child
decreases-loop-child l = forest_size (children_forest l.left)
