use Rattle.std.proofs.Common.{length}
use Rattle.swc_resolved.specs.Names.{is_taken}
use Rattle.swc_resolved.proofs.Fresh.{AreNew}
use Rattle.swc_resolved.proofs.names.Taken.bind_scope.Given as goal

abbrev pub invariant-loop-left : goal.invariant-loop-left
invariant-loop-left l = AreNew (is_taken l.fn.self) (is_taken l.self) l.names l.left

abbrev pub decreases-loop-left : goal.decreases-loop-left
decreases-loop-left l = length l.left
