use Rattle.swc_ast.specs.Same.{same, same_label}
use Rattle.swc_ast.proofs.Joined.{joined-2}
use Rattle.swc_ast.proofs.SameParts.{both}
use Rattle.swc_ast.proofs.same_modules.ImportDefaultSpecifierCompare.is_same.Goals as goal

pub returns : goal.returns
unfolding same same_label
returns c = joined-2 (both c.eq.ensures c.eq-2.ensures) c.spans_agree.ensures
