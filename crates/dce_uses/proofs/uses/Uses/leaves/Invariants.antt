use Rattle.std.proofs.Common.{length}
use Rattle.swc_names.specs.Ids.{ids}
use Rattle.dce_uses.specs.Said.{register_of, rows_of}
use Rattle.dce_uses.proofs.Leaving.{FreeLeft}
use Rattle.dce_uses.proofs.uses.Uses.leaves.Given as goal

abbrev pub invariant-loop-left : goal.invariant-loop-left
invariant-loop-left l = FreeLeft l.self (ids l.fn.gone) (rows_of (register_of l.self) l.fn.said) l.left

abbrev pub decreases-loop-left : goal.decreases-loop-left
decreases-loop-left l = length l.left
