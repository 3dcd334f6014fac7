use Rattle.std.proofs.Common.{◌∙◌}
use Rattle.expr_operators.proofs.Units.{none_behind}
use Rattle.expr_operators.proofs.texts.stand_before.Goals as goal

pub returns : goal.returns
returns c = none_behind _ _ c.in_default.len_below ∙ c.loop-ys.invariant
