-- one byte more, and the end
use Rattle.std.proofs.Common.{sym, ◌∙◌, arith}
use Rattle.text_tokens.proofs.Steps.{line_stop, line_more, line_last}
use Rattle.text_tokens.proofs.blank.after_line.Goals as goal

pub returns-then-begins_line_end : goal.returns-then-begins_line_end
returns-then-begins_line_end c = c.loop-i.invariant _ (line_stop c.args.text.now c.loop-i.i (sym c.begins_line_end.ensures ∙ c.if-begins_line_end.true))

pub loop-i-preserved : goal.loop-i-preserved
loop-i-preserved c = λ e h. c.loop-i.invariant e (line_more c.args.text.now c.loop-i.i e c.loop-i-test.true (sym c.begins_line_end.ensures ∙ c.if-begins_line_end.false) h)

pub returns : goal.returns
returns c = c.loop-i.invariant _ (line_last c.args.text.now c.loop-i.i _ (let f = c.loop-i-test in omega arith) (omega arith))
