use Rattle.std.proofs.Common.{◌≡◌, ◌<◌, ℕ, max, length, slice_index}
use Rattle.dce_peel.specs.Rounds.{top}
use Rattle.dce_peel.proofs.layers.tops_of.Given as goal

abbrev pub invariant-loop-items_left : goal.invariant-loop-items_left
invariant-loop-items_left l = (n : ℕ) → n < length l.tops.items → max (top l.items_left l.layers_left n) (slice_index l.tops.items n) ≡ top l.items l.layers n

abbrev pub decreases-loop-items_left : goal.decreases-loop-items_left
decreases-loop-items_left l = length l.items_left
