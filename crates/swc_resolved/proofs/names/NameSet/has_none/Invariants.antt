use Rattle.std.proofs.Common.{◌≡◌, length}
use Rattle.swc_ast.specs.Core.{none_in}
use Rattle.swc_resolved.specs.Names.{names, members}
use Rattle.swc_resolved.proofs.names.NameSet.has_none.Given as goal

abbrev pub invariant-loop-left : goal.invariant-loop-left
invariant-loop-left l = none_in (names l.left) (members l.self) ≡ none_in (names l.names) (members l.self)

abbrev pub decreases-loop-left : goal.decreases-loop-left
decreases-loop-left l = length l.left
