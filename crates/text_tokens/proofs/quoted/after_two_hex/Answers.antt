-- two digits
use Rattle.text_tokens.proofs.Steps.{two_hex_at}
use Rattle.text_tokens.proofs.quoted.after_two_hex.Goals as goal

pub returns : goal.returns
returns c = two_hex_at c.in_ok-code.code c.args.text.now c.in_ok-digits.digits.now c.in_ok-code.end.now c.args.value.now c.in_ok-left.left.now c.in_ok-digits.ensures c.in_ok-code.ensures c.in_ok-left.ensures
