use Rattle.std.proofs.Common.{length}
use Rattle.branch_switch.proofs.unbroken.run_fits.Given as goal

abbrev pub decreases-loop-left : goal.decreases-loop-left
decreases-loop-left l = length l.left
