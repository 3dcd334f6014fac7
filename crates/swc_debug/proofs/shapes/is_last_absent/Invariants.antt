use Rattle.std.proofs.Common.{◌≡◌}
use Rattle.swc_ast.specs.Valid.{is_last_absent}
use Rattle.tree_visit.specs.Nodes.{children_forest}
use Rattle.tree_visit.proofs.Caps.{forest_size}
use Rattle.swc_debug.proofs.Last.{absent_after}
use Rattle.swc_debug.proofs.shapes.is_last_absent.Given as goal

abbrev pub invariant-loop-child : goal.invariant-loop-child
invariant-loop-child l = absent_after l.is_absent (children_forest l.left) ≡ is_last_absent (children_forest l.children)

abbrev pub decreases-loop-child : goal.decreases-loop-child
decreases-loop-child l = forest_size (children_forest l.left)
