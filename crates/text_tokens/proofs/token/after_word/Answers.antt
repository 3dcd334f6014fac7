-- the word
use Rattle.std.proofs.Common.{sym, ◌∙◌}
use Rattle.text_tokens.proofs.Steps.{word_at}
use Rattle.text_tokens.proofs.token.after_word.Goals as goal

pub returns-else-word_goes_on : goal.returns-else-word_goes_on
returns-else-word_goes_on c = word_at c.args.word.now c.args.text.now c.after_blanks-place.result.now c.in_ok-rest.rest.now c.after_blanks-place.ensures c.in_ok-rest.ensures (sym c.word_goes_on.ensures ∙ c.if-word_goes_on.false)
