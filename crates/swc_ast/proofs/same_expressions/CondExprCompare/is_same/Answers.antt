use Rattle.swc_ast.specs.Same.{same, same_label}
use Rattle.swc_ast.proofs.Joined.{joined-4}
use Rattle.swc_ast.proofs.same_expressions.CondExprCompare.is_same.Goals as goal

pub returns : goal.returns
unfolding same same_label
returns g c = joined-4 c.spans_agree.ensures c.is_same.ensures c.is_same-2.ensures c.is_same-3.ensures
