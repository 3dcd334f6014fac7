-- what is a comment's rest from here on is one from the start on, with the line ends before it
use Rattle.std.proofs.Common.{List, ℕ, Bool, ◌||◌, drop}
use Rattle.text_tokens.specs.Lines.{Comment}
use Rattle.text_tokens.proofs.blank.after_comment.Given as goal

abbrev pub invariant-loop-i : goal.invariant-loop-i
invariant-loop-i l = (m : Bool) (e : List ℕ) → Comment m (drop l.i l.fn.text) e → Comment (l.line || m) l.fn.text e
