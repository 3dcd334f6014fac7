use Rattle.std.proofs.lemmas.List.{nil_from_length}
use Rattle.std.proofs.Common.{arith}
use Rattle.dce_uses.proofs.Rows.{no_more_rows}
use Rattle.dce_uses.proofs.table.Table.add_rows.Goals as goal

pub returns : goal.returns
returns c = no_more_rows c.args.self.now c.loop-left.self c.args.rows.now c.loop-left.left.now (nil_from_length c.loop-left.left.now (omega (arith, c.in_default.len_below))) c.loop-left.invariant
