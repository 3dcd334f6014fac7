use Rattle.text_outline.proofs.Placed.{ArePlaced}
use Rattle.text_outline.proofs.order.misplaced.Given as goal

abbrev pub invariant-loop-unit : goal.invariant-loop-unit
invariant-loop-unit l = ArePlaced l.text l.units l.unit-index l.end
