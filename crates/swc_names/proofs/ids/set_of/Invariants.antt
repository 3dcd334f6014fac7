use Rattle.std.proofs.Common.{◌≡◌, length}
use Rattle.std.specs.Prelude.{◌||◌}
use Rattle.swc_ast.specs.Scope.{has_name}
use Rattle.swc_ast.specs.Tree.{Name}
use Rattle.swc_names.specs.Ids.{ids, idents}
use Rattle.swc_names.proofs.ids.set_of.Given as goal

abbrev pub invariant-loop-left : goal.invariant-loop-left
invariant-loop-left l = (x : Name) → (has_name x (ids l.ids.keys) || has_name x (idents l.left)) ≡ has_name x (idents l.names)

abbrev pub decreases-loop-left : goal.decreases-loop-left
decreases-loop-left l = length l.left
