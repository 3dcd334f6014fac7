use Rattle.std.proofs.Common.{◌≡◌}
use Rattle.swc_ast.specs.Valid.{none_listed}
use Rattle.tree_visit.specs.Nodes.{children_forest}
use Rattle.tree_visit.proofs.Caps.{forest_size}
use Rattle.swc_debug.proofs.shapes.none_listed.Given as goal

abbrev pub invariant-loop-child : goal.invariant-loop-child
invariant-loop-child l = none_listed (children_forest l.left) ≡ none_listed (children_forest l.children)

abbrev pub decreases-loop-child : goal.decreases-loop-child
decreases-loop-child l = forest_size (children_forest l.left)
