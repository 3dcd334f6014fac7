use Rattle.swc_ast.specs.Same.{same, same_label}
use Rattle.swc_ast.proofs.Joined.{joined-3}
use Rattle.swc_ast.proofs.SameParts.{both}
use Rattle.swc_ast.proofs.same_expressions.AssignPatCompare.is_same.Goals as goal

pub returns : goal.returns
unfolding same same_label
returns g c = joined-3 (both c.eq.ensures c.eq-2.ensures) c.spans_agree.ensures c.is_same.ensures
