use Rattle.std.proofs.Common.{◌≡◌, ◌&&◌, not, length}
use Rattle.swc_ast.specs.Scope.{has_name}
use Rattle.swc_ast.specs.Tree.{Name}
use Rattle.swc_resolved.specs.Names.{names}
use Rattle.core_trees.specs.Inside.{members}
use Rattle.core_trees.proofs.declared.Declared.close.Given as goal

abbrev pub invariant-loop-left : goal.invariant-loop-left
invariant-loop-left l = (y : Name) → (has_name y (members l.self) && not (has_name y (names l.left))) ≡ (has_name y (members l.initial.self) && not (has_name y (names l.names)))

abbrev pub decreases-loop-left : goal.decreases-loop-left
decreases-loop-left l = length l.left
