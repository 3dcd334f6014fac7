use Rattle.std.proofs.Common.{rules, ◌∙◌}
use Rattle.swc_ast.proofs.Equations.{expr_tree-Ident, expr_tree-Lit}
use Rattle.expr_operators.proofs.Made.{number_made, nan_made}
use Rattle.expr_operators.proofs.operands.number_expr.Goals as goal

pub returns-in-Some : goal.returns-in-Some
returns-in-Some c = expr_tree-Lit _ ∙ number_made _ _ c.args.number c.in-Some.value _ (search rules) (search rules)

pub returns-in_ok-sym-in-None : goal.returns-in_ok-sym-in-None
returns-in_ok-sym-in-None c = expr_tree-Ident _ ∙ nan_made _ _ _ _ (search rules) c.in-None.is
