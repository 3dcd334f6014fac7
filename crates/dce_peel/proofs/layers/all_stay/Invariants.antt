use Rattle.std.proofs.Common.{◌≡◌, ◌<◌, ℕ, ◌⊎◌, length, slice_index}
use Rattle.dce_peel.specs.Rounds.{Stays, among}
use Rattle.dce_peel.proofs.layers.all_stay.Given as goal

abbrev pub invariant-loop-left : goal.invariant-loop-left
invariant-loop-left l = (n : ℕ) → ((n < length l.tops) × Stays (slice_index l.tops) l.rounds l.layer n) ⊎ (among l.left n ≡ among l.names n)

abbrev pub decreases-loop-left : goal.decreases-loop-left
decreases-loop-left l = length l.left
