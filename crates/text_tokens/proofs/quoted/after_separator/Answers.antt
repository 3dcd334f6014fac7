-- its three bytes
use Rattle.std.proofs.Common.{sym, ◌∙◌}
use Rattle.text_tokens.proofs.Steps.{break_at}
use Rattle.text_tokens.proofs.quoted.after_separator.Goals as goal

pub returns-then-is_separator : goal.returns-then-is_separator
returns-then-is_separator c = break_at c.in_ok-first.first c.in_ok-second.second c.in_ok-third.third c.args.text.now c.in_ok-first.behind_first.now c.in_ok-second.behind_second.now c.in_ok-third.rest.now c.in_ok-first.ensures c.in_ok-second.ensures c.in_ok-third.ensures (sym c.is_separator.ensures ∙ c.if-is_separator.true)
