use Rattle.std.proofs.Common.{◌+◌, ◌*◌, max}
use Rattle.swc_ast.specs.declared.expressions.Expr.{size-Expr}
use Rattle.swc_utils.proofs.values.+values.Given as goal

abbrev pub decreases-truth_of : goal.decreases-truth_of
decreases-truth_of l = 2 * goal.size-truth_of l

abbrev pub decreases-truth_of_unary : goal.decreases-truth_of_unary
decreases-truth_of_unary l = 2 * goal.size-truth_of_unary l + 1

abbrev pub decreases-truth_of_binary : goal.decreases-truth_of_binary
decreases-truth_of_binary l = 2 * max (size-Expr l.left.now) (size-Expr l.right.now) + 1

abbrev pub decreases-truth_of_assign : goal.decreases-truth_of_assign
decreases-truth_of_assign l = 2 * goal.size-truth_of_assign l + 1

abbrev pub decreases-truth_of_last : goal.decreases-truth_of_last
decreases-truth_of_last l = 2 * goal.size-truth_of_last l + 1

abbrev pub decreases-number_of : goal.decreases-number_of
decreases-number_of l = 2 * goal.size-number_of l

abbrev pub decreases-number_of_unary : goal.decreases-number_of_unary
decreases-number_of_unary l = 2 * goal.size-number_of_unary l + 1
