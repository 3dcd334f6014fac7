use Rattle.std.proofs.Common.{◌≡◌, ◌≤◌, false}
use Rattle.swc_pass.specs.Repeat.{Rounds}
use Rattle.swc_pass.proofs.repeat.run_rounds.Given as goal

-- so many rounds were run, and each changed something
abbrev pub invariant-loop-done : goal.invariant-loop-done
invariant-loop-done g l = (g.P.Pass.settings l.pass ≡ g.P.Pass.settings l.fn.pass) × (l.done ≤ l.max_rounds) × (l.max_rounds ≡ l.fn.max_rounds)
    × Rounds (g.P.Pass.spec (g.P.Pass.settings l.fn.pass)).answers (g.W.Whole.tree l.fn.whole) l.done false (g.W.Whole.tree l.whole)
