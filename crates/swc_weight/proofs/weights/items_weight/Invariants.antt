use Rattle.std.proofs.Common.{◌≡◌, ◌+◌, ◌-◌, ◌^◌, ◌≤◌, min, map, length}
use Rattle.swc_ast.specs.Expressions.{item_kind}
use Rattle.swc_ast.specs.Weight.{items_weight}
use Rattle.swc_weight.proofs.weights.items_weight.Given as goal

abbrev pub invariant-loop-left : goal.invariant-loop-left
invariant-loop-left l = (min (l.total + items_weight (map item_kind l.left)) (2 ^ 64 - 1) ≡ min (items_weight (map item_kind l.items)) (2 ^ 64 - 1)) × (l.total ≤ 2 ^ 64 - 1)

abbrev pub decreases-loop-left : goal.decreases-loop-left
decreases-loop-left l = length l.left
