-- its two signs
use Rattle.text_tokens.proofs.Steps.{where_both, comment_at}
use Rattle.text_tokens.proofs.blank.after_block_comment.Goals as goal

pub returns : goal.returns
returns c = where_both _ _ c.after_comment.result (λ found. comment_at found.0 c.args.text.now c.in_ok-inside.inside.now found.1.now c.in_ok-inside.ensures) c.after_comment.ensures
