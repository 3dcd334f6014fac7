use Rattle.std.proofs.Common.{◌-◌, length}
use Rattle.swc_inline_globals.specs.Walking.{IsReady, SameFrame}
use Rattle.swc_inline_globals.proofs.finals.Frame.next_need.Given as goal

abbrev pub invariant-loop-self : goal.invariant-loop-self
invariant-loop-self l = SameFrame l.fn.self l.self × IsReady l.finals l.self

abbrev pub decreases-loop-self : goal.decreases-loop-self
decreases-loop-self l = length l.self.needs.items - l.self.next
