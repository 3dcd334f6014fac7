use Rattle.swc_ast.proofs.Equations.{expr_tree-Lit}
use Rattle.expr_operators.proofs.operands.truth_expr.Goals as goal

pub returns : goal.returns
returns c = expr_tree-Lit _
