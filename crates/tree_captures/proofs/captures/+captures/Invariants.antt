-- How deep the walk is, and what of the children of a node is still to be told.
use Rattle.std.proofs.Common.{◌≡◌, ◌&&◌, ◌≤◌, ◌+◌, ◌*◌}
use Rattle.swc_ast.specs.Valid.{valid_all}
use Rattle.tree_visit.specs.Nodes.{node_tree, children_forest}
use Rattle.tree_visit.proofs.Caps.{tree_size, forest_size}
use Rattle.tree_captures.specs.Captured.{captured_in, seen}
use Rattle.tree_captures.specs.Places.{before, from, round, within}
use Rattle.tree_captures.specs.Views.{captures}
use Rattle.tree_captures.proofs.captures.+captures.Given as goal

abbrev pub decreases-first_in : goal.decreases-first_in
decreases-first_in l = tree_size (node_tree l.n) * 3 + 2

abbrev pub decreases-first_in_opened : goal.decreases-first_in_opened
decreases-first_in_opened l = tree_size (node_tree l.n) * 3 + 1

abbrev pub decreases-first_below : goal.decreases-first_below
decreases-first_below l = forest_size (children_forest l.children) * 3 + 2

abbrev pub invariant-first_below-loop-child : goal.invariant-first_below-loop-child
invariant-first_below-loop-child l =
    let cs = children_forest l.children in let e = captures l.initial.table in let i = within l.initial.scopes e in
    (seen (captured_in (from i l.place) (children_forest l.left)) (l.so_far && valid_all (children_forest l.left)) ≡ seen (captured_in i cs) (l.is_valid && valid_all cs))
    × ((captures l.table ≡ before e i l.place) × ((round l.scopes l.table ≡ e) × ((within l.scopes ≡ within l.initial.scopes) × (forest_size (children_forest l.left) ≤ forest_size cs))))

abbrev pub decreases-first_below-loop-child : goal.decreases-first_below-loop-child
decreases-first_below-loop-child l = forest_size (children_forest l.left)
