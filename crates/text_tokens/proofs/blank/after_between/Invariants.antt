-- what was passed stands between tokens
use Rattle.text_tokens.specs.Lines.{Between}
use Rattle.text_tokens.proofs.blank.after_between.Given as goal

abbrev pub invariant-loop-piece : goal.invariant-loop-piece
invariant-loop-piece l = Between l.line l.fn.text l.rest
