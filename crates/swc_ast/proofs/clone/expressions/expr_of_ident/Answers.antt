use Rattle.std.proofs.Common.{◌∙◌}
use Rattle.swc_ast.proofs.Equations.{expr_tree-Ident}
use Rattle.swc_ast.proofs.clone.expressions.expr_of_ident.Goals as goal

pub returns : goal.returns
returns c = expr_tree-Ident _ ∙ c.in_ok-copy_ident.ensures
