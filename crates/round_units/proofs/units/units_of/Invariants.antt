use Rattle.std.proofs.Common.{◌≡◌, ◌++◌}
use Rattle.std.specs.Vec.Iter.{into_iter_items}
use Rattle.dce_uses.specs.Said.{Register}
use Rattle.round_units.specs.Rests.{AllKnown, AllSay, items_in}
use Rattle.round_units.proofs.units.units_of.Given as goal

abbrev pub invariant-loop-item : goal.invariant-loop-item
invariant-loop-item l = (items_in l.out.items ++ into_iter_items l.item-iterator ≡ l.fn.items.items) × (AllKnown l.out.items × ((g : Register) → AllSay g l.out.items))
