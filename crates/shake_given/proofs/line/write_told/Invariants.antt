-- What was written, with what is still to come, is the whole escape.
use Rattle.std.proofs.Common.{List, ℕ, ◌++◌, ◌≡◌, encode_utf8_all}
use Rattle.std.specs.Char.Escape.{escape_default}
use Rattle.std.specs.Char.Iter.{escape_rest}
use Rattle.std.specs.Fmt.{HasWritten, IsPlainFormatter}
use Rattle.shake_given.proofs.line.write_told.Given as goal

abbrev pub invariant-loop-told : goal.invariant-loop-told
invariant-loop-told g l =
    IsPlainFormatter l.initial.f
    → (done : List ℕ) × HasWritten g.W.Write.write_str_gives l.initial.f done l.f × (done ++ encode_utf8_all (escape_rest l.told-iterator) ≡ encode_utf8_all (escape_default l.fn.c))
