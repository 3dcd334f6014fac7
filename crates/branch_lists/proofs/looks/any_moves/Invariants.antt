use Rattle.std.proofs.Common.{◌≡◌, length}
use Rattle.std.specs.Prelude.{nat_lt}
use Rattle.swc_ast.specs.Weight.{movable}
use Rattle.branch_lists.specs.Swept.{trees}
use Rattle.branch_lists.proofs.looks.any_moves.Given as goal

abbrev pub invariant-loop-left : goal.invariant-loop-left
invariant-loop-left g l = nat_lt 0 (movable (trees g.T.StmtLike.item l.left)) ≡ nat_lt 0 (movable (trees g.T.StmtLike.item l.items))

abbrev pub decreases-loop-left : goal.decreases-loop-left
decreases-loop-left g l = length l.left
