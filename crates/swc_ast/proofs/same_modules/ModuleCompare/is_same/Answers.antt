use Rattle.swc_ast.specs.Same.{same, same_label}
use Rattle.swc_ast.proofs.SameParts.{both}
use Rattle.swc_ast.proofs.same_modules.ModuleCompare.is_same.Goals as goal

pub returns : goal.returns
unfolding same same_label
returns c = both c.spans_agree.ensures c.is_same.ensures
