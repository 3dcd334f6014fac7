use Rattle.std.proofs.Common.{◌≡◌, length}
use Rattle.swc_ast.specs.Scope.{has_name}
use Rattle.swc_names.specs.Ids.{id_name, ids}
use Rattle.dce_uses.proofs.gone.is_one_of.Given as goal

abbrev pub invariant-loop-left : goal.invariant-loop-left
invariant-loop-left l = has_name (id_name l.name) (ids l.left) ≡ has_name (id_name l.name) (ids l.names)

abbrev pub decreases-loop-left : goal.decreases-loop-left
decreases-loop-left l = length l.left
