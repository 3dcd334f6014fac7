use Rattle.std.proofs.Common.{◌≡◌, length}
use Rattle.swc_ast.specs.Redex.{any_loose}
use Rattle.branch_lists.specs.Swept.{trees}
use Rattle.branch_lists.proofs.looks.any_loose.Given as goal

abbrev pub invariant-loop-left : goal.invariant-loop-left
invariant-loop-left g l = any_loose (trees g.T.StmtLike.item l.left) ≡ any_loose (trees g.T.StmtLike.item l.items)

abbrev pub decreases-loop-left : goal.decreases-loop-left
decreases-loop-left g l = length l.left
