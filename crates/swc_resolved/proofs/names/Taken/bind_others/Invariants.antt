use Rattle.std.proofs.Common.{length, not, ◌&&◌}
use Rattle.swc_ast.specs.Resolved.{one_if}
use Rattle.swc_ast.specs.Scope.{has_name}
use Rattle.swc_resolved.specs.Names.{names, members, is_taken}
use Rattle.swc_resolved.proofs.Fresh.{AreLeft}
use Rattle.swc_resolved.proofs.names.Taken.bind_others.Given as goal

abbrev pub invariant-loop-left : goal.invariant-loop-left
invariant-loop-left l = AreLeft (is_taken l.initial.self) (is_taken l.self) (members l.own) l.left (λ y. one_if (has_name y (names l.names) && not (has_name y (names l.done))))

abbrev pub decreases-loop-left : goal.decreases-loop-left
decreases-loop-left l = length l.left
