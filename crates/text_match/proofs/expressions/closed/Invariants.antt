-- so many were closed
use Rattle.text_match.specs.Parentheses.{Closes}
use Rattle.text_match.proofs.expressions.closed.Given as goal

abbrev pub invariant-loop-closed : goal.invariant-loop-closed
invariant-loop-closed l = Closes l._closed l.fn.text l.rest
