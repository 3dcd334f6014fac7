use Rattle.std.proofs.Common.{◌≡◌, ◌≤◌, ◌+◌, ◌*◌}
use Rattle.swc_ast.specs.Core.{fits_all}
use Rattle.tree_visit.specs.Nodes.{node_tree, children_forest}
use Rattle.tree_visit.proofs.Caps.{tree_size, forest_size}
use Rattle.core_trees.specs.Inside.{declares, all_inside, some_inside}
use Rattle.core_trees.proofs.walk.+walk.Given as goal

abbrev pub decreases-is_fit : goal.decreases-is_fit
decreases-is_fit l = tree_size (node_tree l.n) * 4

abbrev pub decreases-are_fit : goal.decreases-are_fit
decreases-are_fit l = forest_size (children_forest l.children) * 4

abbrev pub decreases-is_scope_fit : goal.decreases-is_scope_fit
decreases-is_scope_fit l = forest_size (children_forest l.children) * 4 + 3

abbrev pub decreases-is_inside : goal.decreases-is_inside
decreases-is_inside l = tree_size (node_tree l.n) * 4

abbrev pub decreases-are_inside : goal.decreases-are_inside
decreases-are_inside l = forest_size (children_forest l.children) * 4

abbrev pub decreases-some_inside : goal.decreases-some_inside
decreases-some_inside l = forest_size (children_forest l.children) * 4

abbrev pub decreases-is_any_inside : goal.decreases-is_any_inside
decreases-is_any_inside l = tree_size (node_tree l.child) * 4 + 1

abbrev pub decreases-is_scope_inside : goal.decreases-is_scope_inside
decreases-is_scope_inside l = forest_size (children_forest l.children) * 4 + 3

abbrev pub decreases-is_entered_fit : goal.decreases-is_entered_fit
decreases-is_entered_fit l = forest_size (children_forest l.children) * 4 + 2

abbrev pub decreases-are_within : goal.decreases-are_within
decreases-are_within l = forest_size (children_forest l.children) * 4 + 1

abbrev pub decreases-are_cases_inside : goal.decreases-are_cases_inside
decreases-are_cases_inside l = forest_size (children_forest l.children) * 4 + 1

abbrev pub invariant-are_fit-loop-child : goal.invariant-are_fit-loop-child
invariant-are_fit-loop-child l = (fits_all (children_forest l.left) ≡ fits_all (children_forest l.children)) × (forest_size (children_forest l.left) ≤ forest_size (children_forest l.children))

abbrev pub decreases-are_fit-loop-child : goal.decreases-are_fit-loop-child
decreases-are_fit-loop-child l = forest_size (children_forest l.left)

abbrev pub invariant-are_inside-loop-child : goal.invariant-are_inside-loop-child
invariant-are_inside-loop-child l = (all_inside (declares l.initial.round) (children_forest l.left) ≡ all_inside (declares l.initial.round) (children_forest l.children)) × (declares l.round ≡ declares l.initial.round) × (forest_size (children_forest l.left) ≤ forest_size (children_forest l.children))

abbrev pub decreases-are_inside-loop-child : goal.decreases-are_inside-loop-child
decreases-are_inside-loop-child l = forest_size (children_forest l.left)

abbrev pub invariant-some_inside-loop-child : goal.invariant-some_inside-loop-child
invariant-some_inside-loop-child l = (some_inside l.bodies (declares l.initial.round) (children_forest l.left) ≡ some_inside l.bodies (declares l.initial.round) (children_forest l.children)) × (declares l.round ≡ declares l.initial.round) × (forest_size (children_forest l.left) ≤ forest_size (children_forest l.children))

abbrev pub decreases-some_inside-loop-child : goal.decreases-some_inside-loop-child
decreases-some_inside-loop-child l = forest_size (children_forest l.left)
