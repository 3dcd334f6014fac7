use Rattle.std.proofs.Common.{◌≡◌, [], take}
use Rattle.swc_inline_globals.specs.Walking.{AllDone, Stands}
use Rattle.swc_inline_globals.proofs.finals.finals.Given as goal

abbrev pub invariant-loop-i : goal.invariant-loop-i
invariant-loop-i l = Stands l.walk × (l.walk.stack.items ≡ []) × (l.walk.lookup.now ≡ l.fn.lookup) × (l.walk.roots.now ≡ l.roots) × AllDone l.walk.finals.items (take l.i l.roots)
