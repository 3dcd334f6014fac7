use Rattle.std.proofs.Common.{◌≡◌, string_bytes, map}
use Rattle.std.specs.Slice.Iter.{iter_rest}
use Rattle.shake_options.specs.CommandLine.{changed_by, command_line}
use Rattle.shake_options.proofs.options.Options.parse.Given as goal

abbrev pub invariant-loop-word : goal.invariant-loop-word
invariant-loop-word l =
    (goal.iterator-loop-word).can_next l.words × (goal.iterator-loop-word).is_finite l.words ×
    (changed_by (map string_bytes (iter_rest l.words)) l.options ≡ command_line (map string_bytes l.args))
