use Rattle.std.proofs.Common.{length}
use Rattle.dce_uses.proofs.Rows.{RowsLeft}
use Rattle.dce_uses.proofs.table.Table.add_rows.Given as goal

abbrev pub invariant-loop-left : goal.invariant-loop-left
invariant-loop-left l = RowsLeft l.initial.self l.self l.rows l.left

abbrev pub decreases-loop-left : goal.decreases-loop-left
decreases-loop-left l = length l.left
