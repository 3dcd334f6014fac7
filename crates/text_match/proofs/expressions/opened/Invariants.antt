-- so many were opened
use Rattle.text_match.specs.Parentheses.{Opens}
use Rattle.text_match.proofs.expressions.opened.Given as goal

abbrev pub invariant-loop-count : goal.invariant-loop-count
invariant-loop-count l = Opens l.count l.fn.text l.rest
