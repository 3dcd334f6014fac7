use Rattle.std.proofs.Common.{◌≡◌, ◌≤◌, ◌-◌, false}
use Rattle.swc_pass.specs.Repeat.{Rounds}
use Rattle.swc_optimization.specs.Simplifier.{Round}
use Rattle.swc_optimization.proofs.rounds.run_rounds.Given as goal

-- so many rounds were run, and each changed something
abbrev pub invariant-loop-done : goal.invariant-loop-done
invariant-loop-done g l = (l.passes ≡ l.fn.passes) × (l.done ≤ l.max_rounds) × (l.max_rounds ≡ l.fn.max_rounds)
    × Rounds (Round l.fn.passes) (g.W.InRounds.tree l.fn.whole) l.done false (g.W.InRounds.tree l.whole)

abbrev pub decreases-loop-done : goal.decreases-loop-done
decreases-loop-done g l = l.max_rounds - l.done
