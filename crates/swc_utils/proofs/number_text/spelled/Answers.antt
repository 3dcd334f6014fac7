use Rattle.std.proofs.Common.{sym, ap, ◌∙◌, ◌+◌, ◌*◌}
use Rattle.swc_utils.proofs.Digits.{leads_past}
use Rattle.swc_utils.proofs.number_text.spelled.Goals as goal

pub returns-then-number-gt-GREATEST : goal.returns-then-number-gt-GREATEST
returns-then-number-gt-GREATEST c = leads_past _ _ _ _ c.loop-c-test.true (sym c.is_digit.ensures ∙ c.if-not-is_digit.false) (ap (λ k. 10 * c.loop-c.number + k) c.from.ensures) c.if-number-gt-GREATEST.true c.loop-c.invariant.0
