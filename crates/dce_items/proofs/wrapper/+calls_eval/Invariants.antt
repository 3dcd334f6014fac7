use Rattle.std.proofs.Common.{◌≡◌, ◌≤◌}
use Rattle.tree_visit.specs.Nodes.{children_forest}
use Rattle.tree_visit.proofs.Caps.{forest_size}
use Rattle.dce_rules.specs.Uses.{any_eval}
use Rattle.dce_items.proofs.wrapper.+calls_eval.Given as goal

abbrev pub decreases-calls_eval : goal.decreases-calls_eval
decreases-calls_eval l = forest_size (children_forest l.children)

abbrev pub invariant-loop-child : goal.invariant-loop-child
invariant-loop-child l =
    (any_eval (children_forest l.left) ≡ any_eval (children_forest l.children))
    × (forest_size (children_forest l.left) ≤ forest_size (children_forest l.children))

abbrev pub decreases-loop-child : goal.decreases-loop-child
decreases-loop-child l = forest_size (children_forest l.left)
