-- its end
use Rattle.text_tokens.proofs.Steps.{where_both, last_text_at, middle_text_at}
use Rattle.text_tokens.proofs.quoted.after_template_text.Goals as goal

pub returns-then-last : goal.returns-then-last
returns-then-last c = where_both _ _ c.behind_byte.result (λ rest. last_text_at c.args.last c.args.value.now c.args.text.now c.in_ok-end.end.now rest.now c.if-last.true c.in_ok-end.ensures) c.behind_byte.ensures

pub returns : goal.returns
returns c = where_both _ _ c.behind_byte-3.result (λ rest. middle_text_at c.args.last c.args.value.now c.args.text.now c.in_ok-end.end.now c.in_ok-brace.brace.now rest.now c.if-last.false c.in_ok-end.ensures c.in_ok-brace.ensures) c.behind_byte-3.ensures
