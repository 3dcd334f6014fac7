use Rattle.std.proofs.Common.{length}
use Rattle.dce_uses.specs.Said.{register_of}
use Rattle.dce_uses.proofs.Saying.{TellsSo}
use Rattle.dce_uses.proofs.uses.Uses.tell.Given as goal

abbrev pub invariant-loop-left : goal.invariant-loop-left
invariant-loop-left g l = TellsSo g.T.StmtLike.item g.T.Speaks.tells (register_of l.initial.self) l.self l.left l.items

abbrev pub decreases-loop-left : goal.decreases-loop-left
decreases-loop-left g l = length l.left
