-- with a line feed or without one
use Rattle.std.proofs.Common.{sym, ◌∙◌}
use Rattle.text_tokens.proofs.Steps.{return_at, return_feed_at}
use Rattle.text_tokens.proofs.quoted.after_return.Goals as goal

pub returns-then-not-begins_byte : goal.returns-then-not-begins_byte
returns-then-not-begins_byte c = return_at c.args.quote c.args.text.now c.args.value.now c.in_ok-left.left.now (sym c.is_template.ensures ∙ c.if-not-is_template.false) (sym c.begins_byte.ensures ∙ c.if-not-begins_byte.true) c.in_ok-left.ensures

pub returns : goal.returns
returns c = return_feed_at c.args.quote c.args.text.now c.in_ok-rest.rest.now c.args.value.now c.in_ok-left.left.now (sym c.is_template.ensures ∙ c.if-not-is_template.false) c.in_ok-rest.ensures c.in_ok-left.ensures
