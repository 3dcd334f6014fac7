use Rattle.std.proofs.Common.{length, ◌≤◌}
use Rattle.dce_uses.proofs.uses.Uses.touched.Given as goal

abbrev pub invariant-loop-row : goal.invariant-loop-row
invariant-loop-row l = length l.touched.items ≤ l.most
