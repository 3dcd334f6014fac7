-- one more is opened
use Rattle.std.proofs.Common.{refl, add-one}
use Rattle.text_match.proofs.expressions.opened.Goals as goal

pub loop-count-init : goal.loop-count-init
loop-count-init c = refl

pub loop-count-preserved : goal.loop-count-preserved
loop-count-preserved c = rw add-one (record { place = c.loop-count.rest.now; before = c.loop-count.invariant; last = c.in-Some.ensures })
