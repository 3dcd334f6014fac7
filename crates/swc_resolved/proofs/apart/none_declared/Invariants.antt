use Rattle.std.proofs.Common.{◌≡◌, length}
use Rattle.swc_ast.specs.Resolved.{none_declared}
use Rattle.swc_resolved.specs.Names.{names}
use Rattle.swc_resolved.proofs.apart.none_declared.Given as goal

abbrev pub invariant-loop-left : goal.invariant-loop-left
invariant-loop-left l = none_declared (names l.left) (names l.names) ≡ none_declared (names l.params) (names l.names)

abbrev pub decreases-loop-left : goal.decreases-loop-left
decreases-loop-left l = length l.left
