use Rattle.std.proofs.Common.{◌≡◌, ◌+◌, drop}
use Rattle.swc_json_parse.proofs.Escapes.{escaped}
use Rattle.swc_json_parse.proofs.sink.LengthOut.push_quoted.Given as goal

abbrev pub invariant-loop-byte : goal.invariant-loop-byte
invariant-loop-byte l = l.self.bytes + escaped (drop l.byte-index l.byte-items) ≡ l.initial.self.bytes + escaped l.byte-items
