use Rattle.swc_ast.specs.Same.{same, same_label}
use Rattle.swc_ast.proofs.Joined.{joined-3}
use Rattle.swc_ast.proofs.same_statements.LabeledStmtCompare.is_same.Goals as goal

pub returns : goal.returns
unfolding same same_label
returns g c = joined-3 c.eq.ensures c.spans_agree.ensures c.is_same.ensures
