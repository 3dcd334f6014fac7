use Rattle.std.proofs.Common.{◌≡◌}
use Rattle.swc_ast.specs.Resolved.{params_of}
use Rattle.tree_visit.specs.Nodes.{children_forest}
use Rattle.tree_visit.proofs.Caps.{forest_size}
use Rattle.dce_uses.proofs.scans.params_of.Given as goal

abbrev pub invariant-loop-child : goal.invariant-loop-child
invariant-loop-child l = params_of (children_forest l.left) ≡ params_of (children_forest l.children)

abbrev pub decreases-loop-child : goal.decreases-loop-child
decreases-loop-child l = forest_size (children_forest l.left)
