use Rattle.branch_loops.proofs.WithinSteps.{nothing_runs}
use Rattle.branch_loops.proofs.within.run_do.Goals as goal

pub returns-in-None : goal.returns-in-None
returns-in-None c = nothing_runs _ _ _ _ _ c.in-None.is c.in_ok-once.ensures
