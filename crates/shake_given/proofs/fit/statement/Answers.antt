use Rattle.std.proofs.Common.{ap, ◌∙◌}
use Rattle.swc_ast.specs.Views.{expr_tree}
use Rattle.swc_ast.proofs.Equations.{stmt_tree-Expr}
use Rattle.shake_given.specs.Twice.{statement}
use Rattle.shake_given.proofs.fit.statement.Goals as goal

pub returns : goal.returns
returns c = stmt_tree-Expr _ ∙ ap statement (ap expr_tree c.in_ok-new.ensures.ok ∙ c.in_ok-clone.ensures.cases)
