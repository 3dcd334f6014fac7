use Rattle.std.proofs.Common.{◌∙◌, sym, arith}
use Rattle.swc_json_parse.proofs.Escapes.{letter_length, control_length, plain_length}
use Rattle.swc_json_parse.proofs.sink.escaped_len.Goals as goal

pub returns-then-has_letter : goal.returns-then-has_letter
returns-then-has_letter c = letter_length _ (sym c.has_letter.ensures ∙ c.if-has_letter.true)

pub returns-then-byte-lt32 : goal.returns-then-byte-lt32
returns-then-byte-lt32 c = control_length _ (sym c.has_letter.ensures ∙ c.if-has_letter.false) (omega arith)

pub returns : goal.returns
returns c = plain_length _ (sym c.has_letter.ensures ∙ c.if-has_letter.false) (omega arith)
