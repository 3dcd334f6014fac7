-- what is a line's rest from here on is one from the start on
use Rattle.std.proofs.Common.{List, ℕ, drop}
use Rattle.text_tokens.specs.Lines.{Line}
use Rattle.text_tokens.proofs.blank.after_line.Given as goal

abbrev pub invariant-loop-i : goal.invariant-loop-i
invariant-loop-i l = (e : List ℕ) → Line (drop l.i l.fn.text) e → Line l.fn.text e
