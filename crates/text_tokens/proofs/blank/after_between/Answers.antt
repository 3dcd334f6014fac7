-- one piece more
use Rattle.text_tokens.specs.Lines.{none}
use Rattle.text_tokens.proofs.Steps.{between_more}
use Rattle.text_tokens.proofs.blank.after_between.Goals as goal

pub loop-piece-init : goal.loop-piece-init
loop-piece-init c = none

pub loop-piece-preserved : goal.loop-piece-preserved
loop-piece-preserved c = between_more c.loop-piece.line c.in-Some.ends c.one_of-line.result c.args.text.now c.loop-piece.rest.now c.in-Some.behind.now c.one_of-line.ensures c.loop-piece.invariant c.in-Some.ensures
