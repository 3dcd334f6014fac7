-- its two signs
use Rattle.text_tokens.proofs.Steps.{line_comment_at}
use Rattle.text_tokens.proofs.blank.after_line_comment.Goals as goal

pub returns : goal.returns
returns c = line_comment_at c.args.text.now c.in_ok-inside.inside.now _ c.in_ok-inside.ensures c.after_line.ensures
