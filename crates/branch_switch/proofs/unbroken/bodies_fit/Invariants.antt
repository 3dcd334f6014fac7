use Rattle.std.proofs.Common.{◌≡◌, false, length}
use Rattle.branch_switch.specs.Clauses.{clauses}
use Rattle.branch_switch.specs.Kept as keeping
use Rattle.branch_switch.proofs.unbroken.bodies_fit.Given as goal

abbrev pub invariant-loop-left : goal.invariant-loop-left
invariant-loop-left l = keeping.bodies_fit l.stopped (clauses l.left) ≡ keeping.bodies_fit false (clauses l.cases)

abbrev pub decreases-loop-left : goal.decreases-loop-left
decreases-loop-left l = length l.left
