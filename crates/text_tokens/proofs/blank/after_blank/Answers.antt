-- its byte
use Rattle.std.proofs.Common.{sym, ◌∙◌}
use Rattle.text_tokens.proofs.Steps.{space_at, line_end_at}
use Rattle.text_tokens.proofs.blank.after_blank.Goals as goal

pub returns-then-is_space : goal.returns-then-is_space
returns-then-is_space c = space_at c.in_ok-first.first c.args.text.now c.in_ok-first.rest.now c.in_ok-first.ensures (sym c.is_space.ensures ∙ c.if-is_space.true)

pub returns-then-is_line_end : goal.returns-then-is_line_end
returns-then-is_line_end c = line_end_at c.in_ok-first.first c.args.text.now c.in_ok-first.rest.now c.in_ok-first.ensures (sym c.is_line_end.ensures ∙ c.if-is_line_end.true)
