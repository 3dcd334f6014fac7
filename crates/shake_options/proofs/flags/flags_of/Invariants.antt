-- The flags so far, and those among the words that are left, are those of the command line.
use Rattle.std.proofs.Common.{◌≡◌, ◌++◌, string_bytes, map}
use Rattle.std.specs.Slice.Iter.{iter_rest}
use Rattle.shake_options.specs.CommandLine.{flags_among, flags_in}
use Rattle.shake_options.specs.Flags.{flag_texts}
use Rattle.shake_options.proofs.flags.flags_of.Given as goal

abbrev pub invariant-loop-word : goal.invariant-loop-word
invariant-loop-word l =
    (goal.iterator-loop-word).can_next l.words × (goal.iterator-loop-word).is_finite l.words ×
    (map flag_texts l.flags.items ++ flags_among (map string_bytes (iter_rest l.words)) ≡ flags_in (map string_bytes l.args))
