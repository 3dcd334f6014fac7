use Rattle.std.proofs.Common.{◌+◌, ◌*◌, max}
use Rattle.swc_ast.specs.declared.expressions.Expr.{size-Expr}
use Rattle.swc_utils.proofs.types.+types.Given as goal

abbrev pub decreases-type_of : goal.decreases-type_of
decreases-type_of l = 2 * goal.size-type_of l

abbrev pub decreases-type_of_binary : goal.decreases-type_of_binary
decreases-type_of_binary l = 2 * max (size-Expr l.left.now) (size-Expr l.right.now) + 1

abbrev pub decreases-type_of_assign : goal.decreases-type_of_assign
decreases-type_of_assign l = 2 * goal.size-type_of_assign l + 1

abbrev pub decreases-type_of_last : goal.decreases-type_of_last
decreases-type_of_last l = 2 * goal.size-type_of_last l + 1
