use Rattle.std.proofs.Common.{arith}
use Rattle.expr_operators.proofs.Digits.{few_digits}
use Rattle.expr_operators.proofs.length.decimal_length.Goals as goal

pub overflow_add-result : goal.overflow_add-result
overflow_add-result c = let h = few_digits c.unsigned_abs.result c.digits-size.result (omega (arith, c.unsigned_abs.ensures.bound)) c.digits-size.ensures in record { fits = h }
