use Rattle.std.proofs.Common.{◌≡◌, ◌++◌, length}
use Rattle.branch_lists.specs.Exports.{ids, exported_names as all_names}
use Rattle.branch_lists.specs.Swept.{trees}
use Rattle.branch_lists.proofs.exports.exported_names.Given as goal

abbrev pub invariant-loop-left : goal.invariant-loop-left
invariant-loop-left g l = ids l.names.items ++ all_names (trees g.T.StmtLike.item l.left) ≡ all_names (trees g.T.StmtLike.item l.items)

abbrev pub decreases-loop-left : goal.decreases-loop-left
decreases-loop-left g l = length l.left
