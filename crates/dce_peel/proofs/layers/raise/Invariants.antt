use Rattle.std.proofs.Common.{◌≡◌, ◌<◌, ℕ, max, length, slice_index, if◌then◌else◌}
use Rattle.dce_peel.specs.Rounds.{among}
use Rattle.dce_peel.proofs.layers.raise.Given as goal

abbrev pub invariant-loop-left : goal.invariant-loop-left
invariant-loop-left l = (n : ℕ) → n < length l.tops → max (if among l.left n then l.layer else 0) (slice_index l.tops n) ≡ max (if among l.notes n then l.layer else 0) (slice_index l.initial.tops n)

abbrev pub decreases-loop-left : goal.decreases-loop-left
decreases-loop-left l = length l.left
