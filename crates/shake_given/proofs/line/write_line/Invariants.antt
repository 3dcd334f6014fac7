-- What was written is what is told of the characters that came.
use Rattle.std.proofs.Common.{encode_utf8_all, flat_map}
use Rattle.std.specs.Fmt.{HasWritten, IsPlainFormatter}
use Rattle.shake_given.specs.Told.{told_char}
use Rattle.shake_given.proofs.line.write_line.Given as goal

abbrev pub invariant-loop-c : goal.invariant-loop-c
invariant-loop-c g l = IsPlainFormatter l.initial.f → HasWritten g.W.Write.write_str_gives l.initial.f (encode_utf8_all (flat_map told_char l.yielded)) l.f
