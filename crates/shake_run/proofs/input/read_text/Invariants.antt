-- What was read stands in `bytes`.
use Rattle.std.proofs.Common.{vec_items}
use Rattle.std.specs.Io.KnownBytes.{Consumes}
use Rattle.shake_run.proofs.input.read_text.Given as goal

abbrev pub invariant-loop : goal.invariant-loop
invariant-loop g l = Consumes (g.R.Read.remaining l.initial.reader) (g.R.Read.remaining l.reader) (vec_items l.bytes)
