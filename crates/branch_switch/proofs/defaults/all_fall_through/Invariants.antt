use Rattle.std.proofs.Common.{◌≡◌, length}
use Rattle.swc_utils.specs.Globals.{unresolved}
use Rattle.branch_switch.specs.Clauses.{clauses}
use Rattle.branch_switch.specs.Defaults as defaults
use Rattle.branch_switch.proofs.defaults.all_fall_through.Given as goal

abbrev pub invariant-loop-left : goal.invariant-loop-left
invariant-loop-left l = defaults.all_fall_through (unresolved l.ctx) (clauses l.left) ≡ defaults.all_fall_through (unresolved l.ctx) (clauses l.cases)

abbrev pub decreases-loop-left : goal.decreases-loop-left
decreases-loop-left l = length l.left
