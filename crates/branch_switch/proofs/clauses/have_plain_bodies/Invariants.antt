use Rattle.std.proofs.Common.{◌≡◌, length}
use Rattle.branch_switch.specs.Clauses.{clauses, plain_bodies}
use Rattle.branch_switch.proofs.clauses.have_plain_bodies.Given as goal

abbrev pub invariant-loop-left : goal.invariant-loop-left
invariant-loop-left l = plain_bodies (clauses l.left) ≡ plain_bodies (clauses l.cases)

abbrev pub decreases-loop-left : goal.decreases-loop-left
decreases-loop-left l = length l.left
