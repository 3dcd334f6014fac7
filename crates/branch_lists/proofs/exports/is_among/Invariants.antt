use Rattle.std.proofs.Common.{◌≡◌, length}
use Rattle.swc_ast.specs.Parts.{ident_name}
use Rattle.swc_ast.specs.Scope.{has_name}
use Rattle.branch_lists.specs.Exports.{ids}
use Rattle.branch_lists.proofs.exports.is_among.Given as goal

abbrev pub invariant-loop-left : goal.invariant-loop-left
invariant-loop-left l = has_name (ident_name l.name) (ids l.left) ≡ has_name (ident_name l.name) (ids l.names)

abbrev pub decreases-loop-left : goal.decreases-loop-left
decreases-loop-left l = length l.left
