-- Which names were put in, and which of them are new.
use Rattle.std.proofs.Common.{◌≡◌, ◌||◌, length}
use Rattle.swc_ast.specs.Scope.{has_name}
use Rattle.swc_ast.specs.Tree.{Name}
use Rattle.swc_resolved.specs.Names.{names}
use Rattle.core_trees.specs.Inside.{members, declares, without}
use Rattle.core_trees.proofs.declared.Declared.open.Given as goal

abbrev pub invariant-loop-left : goal.invariant-loop-left
invariant-loop-left l = ((y : Name) → (has_name y (members l.self) || has_name y (names l.left)) ≡ (has_name y (members l.initial.self) || has_name y (names l.names))) × ((y : Name) → without (names l.new.items) (declares l.self) y ≡ has_name y (members l.initial.self))

abbrev pub decreases-loop-left : goal.decreases-loop-left
decreases-loop-left l = length l.left
