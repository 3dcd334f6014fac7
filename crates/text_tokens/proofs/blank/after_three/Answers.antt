-- its three bytes
use Rattle.std.proofs.Common.{sym, ◌∙◌}
use Rattle.text_tokens.proofs.Steps.{wide_at, separator_at}
use Rattle.text_tokens.proofs.blank.after_three.Goals as goal

pub returns-then-is_wide_space : goal.returns-then-is_wide_space
returns-then-is_wide_space c = wide_at c.in_ok-first.first c.in_ok-second.second c.in_ok-third.third c.args.text.now c.in_ok-first.behind_first.now c.in_ok-second.behind_second.now c.in_ok-third.rest.now c.in_ok-first.ensures c.in_ok-second.ensures c.in_ok-third.ensures (sym c.is_wide_space.ensures ∙ c.if-is_wide_space.true)

pub returns-then-is_separator : goal.returns-then-is_separator
returns-then-is_separator c = separator_at c.in_ok-first.first c.in_ok-second.second c.in_ok-third.third c.args.text.now c.in_ok-first.behind_first.now c.in_ok-second.behind_second.now c.in_ok-third.rest.now c.in_ok-first.ensures c.in_ok-second.ensures c.in_ok-third.ensures (sym c.is_separator.ensures ∙ c.if-is_separator.true)
