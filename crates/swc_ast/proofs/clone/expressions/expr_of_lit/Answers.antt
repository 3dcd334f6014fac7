use Rattle.std.proofs.Common.{◌∙◌}
use Rattle.swc_ast.proofs.Equations.{expr_tree-Lit}
use Rattle.swc_ast.proofs.clone.expressions.expr_of_lit.Goals as goal

pub returns : goal.returns
returns c = expr_tree-Lit _ ∙ c.in_ok-copy_lit.ensures
