use Rattle.std.proofs.Common.{◌≤◌, ◌+◌, ◌*◌}
use Rattle.tree_visit.specs.Nodes.{node_tree, children_forest}
use Rattle.tree_visit.proofs.Caps.{tree_size, forest_size}
use Rattle.dce_uses.specs.Noted.{noted_among}
use Rattle.dce_uses.proofs.Adding.{Going}
use Rattle.dce_uses.proofs.Seeing.{SeenSo}
use Rattle.dce_uses.proofs.table.Table.+count.Given as goal

abbrev pub decreases-count : goal.decreases-count
decreases-count l = tree_size (node_tree l.n) * 3 + 2

abbrev pub decreases-count_node : goal.decreases-count_node
decreases-count_node l = tree_size (node_tree l.n) * 3 + 1

abbrev pub decreases-count_opened : goal.decreases-count_opened
decreases-count_opened l = forest_size (children_forest l.opened.children) * 3 + 2

abbrev pub decreases-count_all : goal.decreases-count_all
decreases-count_all l = forest_size (children_forest l.children) * 3 + 1

abbrev pub invariant-count_all-loop-child : goal.invariant-count_all-loop-child
invariant-count_all-loop-child l =
    Going l.initial.self l.self (λ f x. noted_among f x l.place (children_forest l.children)) (λ f x. noted_among f x l.place (children_forest l.left))
    × SeenSo l.seen (children_forest l.left) (children_forest l.children)
    × (forest_size (children_forest l.left) ≤ forest_size (children_forest l.children))

abbrev pub decreases-count_all-loop-child : goal.decreases-count_all-loop-child
decreases-count_all-loop-child l = forest_size (children_forest l.left)
