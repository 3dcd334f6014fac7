use Rattle.std.proofs.Common.{◌≡◌, length}
use Rattle.dce_peel.specs.Rounds.{Each, FitsBy}
use Rattle.dce_peel.proofs.layers.all_fit.Given as goal

abbrev pub invariant-loop-items_left : goal.invariant-loop-items_left
invariant-loop-items_left l = (length l.items_left ≡ length l.layers_left) × (Each (FitsBy l.tops l.rounds) l.items_left l.layers_left → Each (FitsBy l.tops l.rounds) l.items l.layers)

abbrev pub decreases-loop-items_left : goal.decreases-loop-items_left
decreases-loop-items_left l = length l.items_left
