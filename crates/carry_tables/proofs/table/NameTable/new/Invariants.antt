use Rattle.std.proofs.Common.{◌-◌, length}
use Rattle.carry_tables.proofs.Numbered.{all_are}
use Rattle.carry_tables.proofs.table.NameTable.new.Given as goal

abbrev pub invariant-loop-item : goal.invariant-loop-item
invariant-loop-item g l = all_are l.item l.items.items

abbrev pub decreases-loop-item : goal.decreases-loop-item
decreases-loop-item g l = l.len - length l.items.items
