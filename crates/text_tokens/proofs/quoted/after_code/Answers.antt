-- one unit, or two
use Rattle.std.proofs.Common.{sym, ◌∙◌}
use Rattle.text_tokens.proofs.Steps.{unit_at, pair_at}
use Rattle.text_tokens.proofs.quoted.after_code.Goals as goal

pub returns-then-is_scalar : goal.returns-then-is_scalar
returns-then-is_scalar c = unit_at c.in_ok-unit.unit c.args.text.now c.in_ok-unit.rest.now c.args.value.now c.in_ok-left.left.now c.in_ok-unit.ensures (sym c.is_scalar.ensures ∙ c.if-is_scalar.true) c.in_ok-left.ensures

pub returns : goal.returns
returns c = pair_at c.in_ok-unit.unit c.in_ok-low.low c.joined.result c.args.text.now c.in_ok-unit.rest.now c.in_ok-second.second.now c.in_ok-low.end.now c.args.value.now c.in_ok-left-2.left.now c.in_ok-unit.ensures c.in_ok-second.ensures c.in_ok-low.ensures (sym c.is_high.ensures ∙ c.if-not-is_high.false) (sym c.is_low.ensures ∙ c.if-not-is_low.false) c.joined.ensures c.in_ok-left-2.ensures
