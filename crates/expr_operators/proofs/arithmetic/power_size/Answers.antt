use Rattle.std.proofs.Common.{sym, subst, ◌<◌, ◌^◌, arith}
use Rattle.expr_operators.proofs.Powers.{small_base, large_power}
use Rattle.expr_operators.proofs.arithmetic.power_size.Goals as goal
use Rattle.expr_operators.proofs.arithmetic.power_size.Goals.{else-base-lt2-via-then-base-lt2+else-exponent-gt0, else-base-lt2-via-else-base-lt2}

pub returns-then-exponent-gt0 : goal.returns-then-exponent-gt0
returns-then-exponent-gt0 c =
    let e = sym (small_base c.args.base c.args.exponent c.if-base-lt2.true c.if-exponent-gt0.true) in
    (subst (λ k. k < 2 ^ 64) e c.ranges.base.fits, e)

pub returns-in-Err : goal.returns-in-Err
returns-in-Err c h = elim c.else-base-lt2.branch [
  | else-base-lt2-via-then-base-lt2+else-exponent-gt0 w ↦ omega (arith, w.if-exponent-gt0, c.in-Err.ensures)
  | else-base-lt2-via-else-base-lt2 w ↦ large_power c.args.base c.args.exponent (omega (arith, w.if-base-lt2)) (omega (arith, c.in-Err.ensures)) h
]
