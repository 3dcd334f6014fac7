use Rattle.swc_ast.specs.Same.{same, same_label}
use Rattle.swc_ast.proofs.SameParts.{all-three}
use Rattle.swc_ast.proofs.same_expressions.NewExprCompare.is_same.Goals as goal

pub returns : goal.returns
unfolding same same_label
returns g c = all-three c.spans_agree.ensures c.is_same.ensures c.is_same-2.ensures
