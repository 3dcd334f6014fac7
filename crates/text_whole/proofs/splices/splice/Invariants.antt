use Rattle.std.proofs.Common.{◌≡◌, ◌++◌, drop}
use Rattle.std.specs.Prelude.{string_bytes}
use Rattle.text_whole.specs.Splice.{spliced}
use Rattle.text_whole.proofs.splices.splice.Given as goal

-- what is made so far, and then what is made of the rest
abbrev pub invariant-loop-cut : goal.invariant-loop-cut
invariant-loop-cut l = string_bytes l.out ++ spliced l.text l.end (drop l.cut-index l.cuts) ≡ spliced l.text 0 l.cuts
