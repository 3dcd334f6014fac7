use Rattle.std.proofs.Common.{◌≡◌, ◌++◌}
use Rattle.std.specs.Vec.Iter.{into_iter_items}
use Rattle.round_units.specs.Rests.{items_in}
use Rattle.round_units.proofs.units.items_of.Given as goal

abbrev pub invariant-loop-unit : goal.invariant-loop-unit
invariant-loop-unit l = l.out.items ++ items_in (into_iter_items l.unit-iterator) ≡ items_in l.fn.units.items
