use Rattle.swc_inline_globals.specs.Walking.{Stands, SameAsked, Grows, IsBegun, waiting}
use Rattle.swc_inline_globals.proofs.finals.Walk.settle.Given as goal

abbrev pub invariant-loop-self : goal.invariant-loop-self
invariant-loop-self l = Stands l.self × SameAsked l.fn.self l.self × Grows l.fn.self.finals.items l.self.finals.items × IsBegun l.self.begun.items l.number

abbrev pub decreases-loop-self : goal.decreases-loop-self
decreases-loop-self l = waiting l.self
