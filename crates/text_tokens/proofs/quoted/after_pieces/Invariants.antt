-- what the rest of the text and of the value is the end of
use Rattle.std.proofs.Common.{List, ℕ}
use Rattle.text_tokens.specs.Texts.{Pieces}
use Rattle.text_tokens.proofs.quoted.after_pieces.Given as goal

abbrev pub invariant-loop-piece : goal.invariant-loop-piece
invariant-loop-piece l = (e : List ℕ) → Pieces l.fn.quote l.left l.rest e → Pieces l.fn.quote l.fn.value l.fn.text e
