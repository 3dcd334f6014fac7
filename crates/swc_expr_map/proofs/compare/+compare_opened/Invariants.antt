use Rattle.std.proofs.Common.{◌≡◌, ◌≤◌}
use Rattle.tree_visit.specs.Nodes.{children_forest}
use Rattle.tree_visit.proofs.Caps.{forest_size}
use Rattle.swc_expr_map.specs.Order.{children_cmp}
use Rattle.swc_expr_map.proofs.compare.+compare_opened.Given as goal

abbrev pub decreases-compare_opened : goal.decreases-compare_opened
decreases-compare_opened l = forest_size (children_forest l.a.children)

abbrev pub invariant-loop-x : goal.invariant-loop-x
invariant-loop-x l = (children_cmp (children_forest l.left) (children_forest l.right) ≡ children_cmp (children_forest l.fn.a.children) (children_forest l.fn.b.children)) × (forest_size (children_forest l.left) ≤ forest_size (children_forest l.fn.a.children))

abbrev pub decreases-loop-x : goal.decreases-loop-x
decreases-loop-x l = forest_size (children_forest l.left)
