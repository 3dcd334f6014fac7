use Rattle.swc_ast.specs.Same.{same, same_label}
use Rattle.swc_ast.proofs.Joined.{joined-1}
use Rattle.swc_ast.proofs.same_leaves.InvalidCompare.is_same.Goals as goal

pub returns : goal.returns
unfolding same same_label
returns c = joined-1 c.spans_agree.ensures
