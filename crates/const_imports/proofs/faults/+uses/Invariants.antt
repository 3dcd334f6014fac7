use Rattle.std.proofs.Common.{◌≡◌, ◌≤◌, ◌+◌, ◌*◌}
use Rattle.tree_visit.specs.Nodes.{node_tree, children_forest}
use Rattle.tree_visit.proofs.Caps.{tree_size, forest_size}
use Rattle.const_imports.specs.Faults.{joined, each_faults}
use Rattle.const_imports.specs.Views.{has_value, roles_of, first_of}
use Rattle.const_imports.proofs.faults.+uses.Given as goal

abbrev pub decreases-first_in : goal.decreases-first_in
decreases-first_in g l = tree_size (node_tree l.n) * 2

abbrev pub decreases-first_among : goal.decreases-first_among
decreases-first_among g l = forest_size (children_forest l.children) * 2 + 1

abbrev pub invariant-first_among-loop-child : goal.invariant-first_among-loop-child
invariant-first_among-loop-child g l = (first_of (joined (each_faults (has_value l.given) (roles_of l.locals) (children_forest l.left))) ≡ first_of (joined (each_faults (has_value l.given) (roles_of l.locals) (children_forest l.children)))) × (forest_size (children_forest l.left) ≤ forest_size (children_forest l.children))

abbrev pub decreases-first_among-loop-child : goal.decreases-first_among-loop-child
decreases-first_among-loop-child g l = forest_size (children_forest l.left)
