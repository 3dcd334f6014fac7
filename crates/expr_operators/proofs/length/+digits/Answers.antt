use Rattle.std.proofs.Common.{arith, ◌/◌}
use Rattle.expr_operators.proofs.Digits.{one_digit, one_more, few_digits}
use Rattle.expr_operators.proofs.length.+digits.Goals as goal

pub returns-then-n-lt10 : goal.returns-then-n-lt10
returns-then-n-lt10 t c = one_digit c.args.n c.if-n-lt10.true

pub overflow_add-result : goal.overflow_add-result
overflow_add-result t c = let h = few_digits (c.args.n / 10) c.digits.result (omega (arith, c.ranges.n.fits)) c.digits.ensures in record { fits = h }

pub returns : goal.returns
returns t c = one_more c.args.n c.digits.result c.if-n-lt10.false c.ranges.n.fits c.digits.ensures
