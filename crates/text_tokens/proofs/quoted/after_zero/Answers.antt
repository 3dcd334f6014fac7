-- no digit is behind it
use Rattle.std.proofs.Common.{sym, ◌∙◌}
use Rattle.text_tokens.proofs.Steps.{zero_at}
use Rattle.text_tokens.proofs.quoted.after_zero.Goals as goal

pub returns : goal.returns
returns c = zero_at c.args.text.now c.in_ok-rest.rest.now c.args.value.now c.in_ok-left.left.now c.in_ok-rest.ensures c.in_ok-left.ensures (sym c.begins_digit.ensures ∙ c.if-begins_digit.false)
