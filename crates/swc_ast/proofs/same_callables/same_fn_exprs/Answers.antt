use Rattle.swc_ast.specs.Same.{same, same_label}
use Rattle.swc_ast.proofs.SameParts.{both}
use Rattle.swc_ast.proofs.same_callables.same_fn_exprs.Goals as goal

pub returns : goal.returns
unfolding same same_label
returns g c = both c.same_idents.ensures c.is_same.ensures
