-- one byte
use Rattle.std.proofs.Common.{sym, ◌∙◌}
use Rattle.text_tokens.proofs.Steps.{single_at}
use Rattle.text_tokens.proofs.quoted.after_single.Goals as goal

pub returns : goal.returns
returns c = single_at c.in_ok-first.first c.escaped_byte.result c.args.text.now c.in_ok-first.rest.now c.args.value.now c.in_ok-left.left.now c.in_ok-first.ensures (sym c.is_single.ensures ∙ c.if-not-is_single.false) c.in_ok-left.ensures c.escaped_byte.ensures
