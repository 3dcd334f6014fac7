use Rattle.std.proofs.Common.{◌≡◌, ◌||◌, length}
use Rattle.swc_ast.specs.Scope.{has_name}
use Rattle.swc_ast.specs.Tree.{Name}
use Rattle.swc_resolved.specs.Names.{names, members}
use Rattle.swc_resolved.proofs.names.NameSet.of.Given as goal

abbrev pub invariant-loop-left : goal.invariant-loop-left
invariant-loop-left l = (y : Name) → (has_name y (members l.set) || has_name y (names l.left)) ≡ has_name y (names l.names)

abbrev pub decreases-loop-left : goal.decreases-loop-left
decreases-loop-left l = length l.left
