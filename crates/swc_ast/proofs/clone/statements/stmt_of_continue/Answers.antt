use Rattle.std.proofs.Common.{◌∙◌}
use Rattle.swc_ast.proofs.Equations.{stmt_tree-Continue}
use Rattle.swc_ast.proofs.clone.statements.stmt_of_continue.Goals as goal

pub returns : goal.returns
returns c = stmt_tree-Continue _ ∙ c.in_ok-copy_continue.ensures
