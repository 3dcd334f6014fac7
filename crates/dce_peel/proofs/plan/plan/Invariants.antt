use Rattle.std.proofs.Common.{◌≤◌, ◌-◌}
use Rattle.dce_peel.proofs.plan.plan.Given as goal

abbrev pub invariant-loop-rounds : goal.invariant-loop-rounds
invariant-loop-rounds l = l.rounds ≤ l.most

abbrev pub decreases-loop-rounds : goal.decreases-loop-rounds
decreases-loop-rounds l = l.most - l.rounds
