use Rattle.std.proofs.Common.{length}
use Rattle.branch_jumps.specs.Aims.{sought}
use Rattle.branch_loops.specs.Runs.{Passed}
use Rattle.branch_loops.proofs.once.jump_place.Given as goal

abbrev pub invariant-loop-left : goal.invariant-loop-left
invariant-loop-left l = Passed (sought l.labels) l.place l.stmts l.left

abbrev pub decreases-loop-left : goal.decreases-loop-left
decreases-loop-left l = length l.left
