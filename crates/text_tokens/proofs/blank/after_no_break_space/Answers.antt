-- its two bytes
use Rattle.text_tokens.proofs.Steps.{where_both, no_break_at}
use Rattle.text_tokens.proofs.blank.after_no_break_space.Goals as goal

pub returns : goal.returns
returns c = where_both _ _ c.behind_byte-2.result (λ rest. no_break_at c.args.text.now c.in_ok-second.second.now rest.now c.in_ok-second.ensures) c.behind_byte-2.ensures
