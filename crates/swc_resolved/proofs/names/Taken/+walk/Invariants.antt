use Rattle.std.proofs.Common.{◌≡◌, ◌≤◌, ◌+◌, ◌*◌}
use Rattle.swc_ast.specs.Resolved.{one_if, scopes_all}
use Rattle.swc_ast.specs.Tree.{Name}
use Rattle.tree_visit.specs.Nodes.{node_tree, children_forest}
use Rattle.tree_visit.proofs.Caps.{tree_size, forest_size}
use Rattle.swc_resolved.specs.Jumps.{targets}
use Rattle.swc_resolved.specs.Names.{is_taken}
use Rattle.swc_resolved.specs.Asked.{good_all}
use Rattle.swc_resolved.proofs.names.Taken.+walk.Given as goal

abbrev pub decreases-walk : goal.decreases-walk
decreases-walk l = tree_size (node_tree l.n) * 5 + 4

abbrev pub decreases-walk_opened : goal.decreases-walk_opened
decreases-walk_opened l = tree_size (node_tree l.n) * 5 + 3

abbrev pub decreases-walk_below : goal.decreases-walk_below
decreases-walk_below l = forest_size (children_forest l.children) * 5 + 3

abbrev pub decreases-walk_labeled : goal.decreases-walk_labeled
decreases-walk_labeled l = forest_size (children_forest l.children) * 5 + 1

abbrev pub decreases-walk_loop : goal.decreases-walk_loop
decreases-walk_loop l = forest_size (children_forest l.children) * 5 + 1

abbrev pub decreases-walk_all : goal.decreases-walk_all
decreases-walk_all l = forest_size (children_forest l.children) * 5

abbrev pub invariant-walk_all-loop-child : goal.invariant-walk_all-loop-child
invariant-walk_all-loop-child l = (good_all l.core_too (targets l.g) (children_forest l.left) ≡ good_all l.core_too (targets l.g) (children_forest l.children)) × ((x : Name) → one_if (is_taken l.self x) + scopes_all x (children_forest l.left) ≡ one_if (is_taken l.initial.self x) + scopes_all x (children_forest l.children)) × (forest_size (children_forest l.left) ≤ forest_size (children_forest l.children))

abbrev pub decreases-walk_all-loop-child : goal.decreases-walk_all-loop-child
decreases-walk_all-loop-child l = forest_size (children_forest l.left)
