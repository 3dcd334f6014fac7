-- What is given by the flags that came.
use Rattle.shake_given.specs.Reads.{Reads}
use Rattle.shake_given.proofs.Turns.{came}
use Rattle.shake_given.proofs.given.Given.read.Given as goal

abbrev pub invariant-loop-flag : goal.invariant-loop-flag
invariant-loop-flag l = Reads l.fn.mark (came l.flags l.flag-index) l.given
