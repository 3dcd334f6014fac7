use Rattle.std.proofs.Common.{sym, ap, ◌∙◌}
use Rattle.swc_ast.proofs.Equations.{expr_tree-Unary, expr_tree-Call}
use Rattle.swc_ast.specs.Views.{expr_tree}
use Rattle.dce_rules.specs.Left.{is_plain_value}
use Rattle.dce_code.proofs.Declared.{plain_unary, plain_call}
use Rattle.dce_code.proofs.declarations.is_plain_value.Goals as goal

pub returns-in-Unary : goal.returns-in-Unary
returns-in-Unary c = sym (ap is_plain_value (ap expr_tree c.in-Unary.is ∙ expr_tree-Unary _) ∙ plain_unary _ _ _)

pub returns-in-Call : goal.returns-in-Call
returns-in-Call c = sym (ap is_plain_value (ap expr_tree c.in-Call.is ∙ expr_tree-Call _) ∙ plain_call _ _ _)
