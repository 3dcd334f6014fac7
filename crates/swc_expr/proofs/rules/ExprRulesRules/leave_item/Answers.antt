use Rattle.std.proofs.Common.{refl}
use Rattle.swc_expr.proofs.Statements.{item_rests}
use Rattle.swc_expr.proofs.rules.ExprRulesRules.leave_item.Goals as goal

pub returns : goal.returns
returns c = (refl, item_rests _)
