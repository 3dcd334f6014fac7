-- one more is closed
use Rattle.std.proofs.Common.{refl, add-one}
use Rattle.text_match.proofs.expressions.closed.Goals as goal

pub loop-closed-init : goal.loop-closed-init
loop-closed-init c = refl

pub loop-closed-preserved : goal.loop-closed-preserved
loop-closed-preserved c = rw add-one (record { place = c.loop-closed.rest.now; before = c.loop-closed.invariant; last = c.in_ok-rest.ensures })
