use Rattle.std.proofs.Common.{◌≡◌, drop, length}
use Rattle.swc_ast.specs.Expressions.{item_trees}
use Rattle.swc_ast.specs.Views.{expr_tree}
use Rattle.tree_visit.proofs.children.next_item.Given as goal

abbrev pub invariant-loop-x : goal.invariant-loop-x
invariant-loop-x l = item_trees expr_tree (drop l.left l.xs.items) ≡ item_trees expr_tree (drop l.at l.xs.items)

abbrev pub decreases-loop-x : goal.decreases-loop-x
decreases-loop-x l = length (drop l.left l.xs.items)
