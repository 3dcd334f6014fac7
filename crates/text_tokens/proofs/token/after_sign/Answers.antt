-- the sign
use Rattle.std.proofs.Common.{sym, ◌∙◌}
use Rattle.text_tokens.proofs.Steps.{sign_at}
use Rattle.text_tokens.proofs.token.after_sign.Goals as goal

pub returns-else-sign_goes_on : goal.returns-else-sign_goes_on
returns-else-sign_goes_on c = sign_at c.args.sign.now c.args.text.now c.after_blanks-place.result.now c.in_ok-rest.rest.now c.after_blanks-place.ensures c.in_ok-rest.ensures (sym c.sign_goes_on.ensures ∙ c.if-sign_goes_on.false)
