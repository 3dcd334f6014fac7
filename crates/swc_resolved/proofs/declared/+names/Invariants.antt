use Rattle.std.proofs.Common.{◌≡◌, ◌≤◌, ◌+◌, ◌*◌, ◌++◌}
use Rattle.tree_visit.specs.Nodes.{node_tree, children_forest}
use Rattle.tree_visit.proofs.Caps.{tree_size, forest_size}
use Rattle.swc_resolved.specs.Names.{names}
use Rattle.swc_resolved.specs.Parts.{forest_names}
use Rattle.swc_resolved.proofs.declared.+names.Given as goal

abbrev pub decreases-add_node : goal.decreases-add_node
decreases-add_node l = tree_size (node_tree l.n) * 4 + 2

abbrev pub decreases-add_names_of : goal.decreases-add_names_of
decreases-add_names_of l = tree_size (node_tree l.n) * 4 + 1

abbrev pub decreases-add_vars : goal.decreases-add_vars
decreases-add_vars l = tree_size (node_tree l.n) * 4

abbrev pub decreases-add_declaration : goal.decreases-add_declaration
decreases-add_declaration l = tree_size (node_tree l.n) * 4

abbrev pub decreases-add_names : goal.decreases-add_names
decreases-add_names l = forest_size (children_forest l.children) * 4 + 3

abbrev pub invariant-add_names-loop-child : goal.invariant-add_names-loop-child
invariant-add_names-loop-child l = (names l.names.items ++ forest_names l.part (children_forest l.left) ≡ names l.initial.names.items ++ forest_names l.part (children_forest l.children)) × (forest_size (children_forest l.left) ≤ forest_size (children_forest l.children))

abbrev pub decreases-add_names-loop-child : goal.decreases-add_names-loop-child
decreases-add_names-loop-child l = forest_size (children_forest l.left)
