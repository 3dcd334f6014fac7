use Rattle.std.proofs.Common.{◌∙◌}
use Rattle.swc_ast.proofs.Equations.{stmt_tree-Break}
use Rattle.swc_ast.proofs.clone.statements.stmt_of_break.Goals as goal

pub returns : goal.returns
returns c = stmt_tree-Break _ ∙ c.in_ok-copy_break.ensures
