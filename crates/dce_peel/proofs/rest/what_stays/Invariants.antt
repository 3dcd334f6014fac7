use Rattle.std.proofs.Common.{◌≡◌, ◌++◌}
use Rattle.std.specs.Vec.Iter.{into_iter_items}
use Rattle.dce_peel.specs.Rounds.{staying}
use Rattle.dce_peel.proofs.rest.what_stays.Given as goal

abbrev pub invariant-loop-item : goal.invariant-loop-item
invariant-loop-item g l = l.kept.items ++ staying l.rounds (into_iter_items l.item-iterator) l.layers_left ≡ staying l.rounds l.fn.items.items l.fn.layers
