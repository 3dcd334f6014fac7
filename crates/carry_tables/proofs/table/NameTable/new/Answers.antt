use Rattle.std.proofs.Common.{sym, subst, arith}
use Rattle.carry_tables.proofs.Numbered.{all_are, one_more, all_alike}
use Rattle.carry_tables.proofs.table.NameTable.new.Goals as goal

pub loop-item-preserved : goal.loop-item-preserved
loop-item-preserved g c = subst (all_are c.args.item) (sym c.in_ok-push.ensures.items) (one_more c.args.item c.loop-item.items.items c.loop-item.invariant)

pub returns : goal.returns
returns g c = all_alike c.args.item c.loop-item.items.items c.args.names.now c.loop-item.invariant (omega (arith, c.loop-item-test.false, c.len.ensures, c.len-len.ensures, c.loop-item.items.ok.0))
