use Rattle.std.proofs.Common.{◌≡◌, length}
use Rattle.dce_peel.specs.Rounds.{among}
use Rattle.dce_peel.proofs.layers.is_among.Given as goal

abbrev pub invariant-loop-left : goal.invariant-loop-left
invariant-loop-left l = among l.left l.number ≡ among l.numbers l.number

abbrev pub decreases-loop-left : goal.decreases-loop-left
decreases-loop-left l = length l.left
