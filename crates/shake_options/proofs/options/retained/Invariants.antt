-- The texts so far, and those among the words that are left, are those of the command line.
use Rattle.std.proofs.Common.{◌≡◌, ◌++◌, string_bytes, map}
use Rattle.std.specs.Slice.Iter.{iter_rest}
use Rattle.shake_options.specs.CommandLine.{retained_among, retained_in}
use Rattle.shake_options.proofs.options.retained.Given as goal

abbrev pub invariant-loop-word : goal.invariant-loop-word
invariant-loop-word l =
    (goal.iterator-loop-word).can_next l.words × (goal.iterator-loop-word).is_finite l.words ×
    (map string_bytes l.texts.items ++ retained_among (map string_bytes (iter_rest l.words)) ≡ retained_in (map string_bytes l.args))
