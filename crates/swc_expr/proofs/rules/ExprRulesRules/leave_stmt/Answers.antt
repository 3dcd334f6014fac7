use Rattle.std.proofs.Common.{refl}
use Rattle.swc_expr.proofs.Statements.{stmt_rests}
use Rattle.swc_expr.proofs.rules.ExprRulesRules.leave_stmt.Goals as goal

pub returns : goal.returns
returns c = (refl, stmt_rests _)
