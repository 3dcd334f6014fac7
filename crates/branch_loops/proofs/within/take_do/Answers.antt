use Rattle.std.proofs.Common.{refl}
use Rattle.branch_loops.specs.Runs.{do_stays}
use Rattle.branch_loops.proofs.within.take_do.Goals as goal

pub returns-in_default : goal.returns-in_default
returns-in_default c = do_stays refl
