use Rattle.std.proofs.Common.{◌≡◌, length}
use Rattle.swc_utils.specs.Globals.{unresolved}
use Rattle.branch_switch.specs.Clauses.{all_idle, clauses}
use Rattle.branch_switch.proofs.clauses.are_idle.Given as goal

abbrev pub invariant-loop-left : goal.invariant-loop-left
invariant-loop-left l = all_idle (unresolved l.ctx) (clauses l.left) ≡ all_idle (unresolved l.ctx) (clauses l.cases)

abbrev pub decreases-loop-left : goal.decreases-loop-left
decreases-loop-left l = length l.left
