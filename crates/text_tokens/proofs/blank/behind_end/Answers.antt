-- its two bytes
use Rattle.std.proofs.Common.{refl}
use Rattle.text_tokens.proofs.Steps.{comment_end_at}
use Rattle.text_tokens.proofs.blank.behind_end.Goals as goal

pub returns : goal.returns
returns c = (refl, comment_end_at c.args.text.now c.in_ok-slash.slash.now c.in_ok-rest.rest.now c.in_ok-slash.ensures c.in_ok-rest.ensures)
