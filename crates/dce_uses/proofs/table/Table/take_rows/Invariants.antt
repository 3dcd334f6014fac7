use Rattle.std.proofs.Common.{length}
use Rattle.dce_uses.proofs.Rows.{TakingBehind}
use Rattle.dce_uses.proofs.table.Table.take_rows.Given as goal

abbrev pub invariant-loop-number : goal.invariant-loop-number
invariant-loop-number l = TakingBehind l.initial.self l.self l.initial.rows.items l.rows.items

abbrev pub decreases-loop-number : goal.decreases-loop-number
decreases-loop-number l = length l.self.touched.items
