-- one byte more
use Rattle.std.proofs.Common.{sym, ◌∙◌}
use Rattle.text_tokens.proofs.Steps.{comment_next}
use Rattle.text_tokens.proofs.blank.after_comment.Goals as goal

pub loop-i-preserved : goal.loop-i-preserved
loop-i-preserved c = λ m e h. comment_next c.args.text.now c.loop-i.i c.loop-i.line c.begins_line_end.result c.one_of-line.result m e c.loop-i-test.true (sym c.begins_pair.ensures ∙ c.if-begins_pair.false) c.begins_line_end.ensures c.one_of-line.ensures c.loop-i.invariant h
