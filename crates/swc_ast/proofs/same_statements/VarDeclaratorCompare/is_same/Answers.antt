use Rattle.swc_ast.specs.Same.{same, same_label}
use Rattle.swc_ast.proofs.SameParts.{both, all-three}
use Rattle.swc_ast.proofs.same_statements.VarDeclaratorCompare.is_same.Goals as goal

pub returns : goal.returns
unfolding same same_label
returns g c = all-three (both c.eq.ensures c.eq-2.ensures) c.spans_agree.ensures c.is_same.ensures
