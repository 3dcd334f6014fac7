use Rattle.std.proofs.Common.{ap, ◌∙◌}
use Rattle.swc_ast.specs.Views.{stmt_tree}
use Rattle.swc_ast.specs.Weight.{is_list}
use Rattle.swc_ast.specs.Tree.{label_of}
use Rattle.swc_ast.proofs.Equations.{for_tree-is, stmt_tree-For}
use Rattle.swc_branch.proofs.statements.is_loop.Goals as goal

pub returns-in-For : goal.returns-in-For
returns-in-For c = λ h. ap (λ t. is_list (label_of t)) (ap stmt_tree c.in-For.is ∙ stmt_tree-For _ ∙ for_tree-is _)
