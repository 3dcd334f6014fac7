use Rattle.std.proofs.Common.{length}
use Rattle.branch_jumps.specs.Aims.{texts}
use Rattle.branch_jumps.proofs.aims.+is_among.Given as goal

abbrev pub decreases-is_among : goal.decreases-is_among
decreases-is_among l = length (texts l.labels)
