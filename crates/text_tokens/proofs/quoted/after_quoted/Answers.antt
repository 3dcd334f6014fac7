-- the text between its quotes
use Rattle.std.proofs.Common.{sym, ◌∙◌}
use Rattle.text_tokens.proofs.Steps.{where_both, quoted_at}
use Rattle.text_tokens.proofs.quoted.after_quoted.Goals as goal

pub returns : goal.returns
returns c = where_both _ _ c.behind_byte.result (λ rest. quoted_at c.in_ok-quote.quote c.args.value.now c.args.text.now c.after_blanks-place.result.now c.in_ok-quote.inside.now c.in_ok-end.end.now rest.now c.after_blanks-place.ensures c.in_ok-quote.ensures (sym c.is_quote.ensures ∙ c.if-not-is_quote.false) c.in_ok-end.ensures) c.behind_byte.ensures
