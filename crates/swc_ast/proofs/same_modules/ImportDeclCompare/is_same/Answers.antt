use Rattle.swc_ast.specs.Same.{same, same_label}
use Rattle.swc_ast.proofs.SameParts.{all-three}
use Rattle.swc_ast.proofs.same_modules.ImportDeclCompare.is_same.Goals as goal

pub returns : goal.returns
unfolding same same_label
returns c = all-three c.eq.ensures c.spans_agree.ensures c.is_same.ensures
