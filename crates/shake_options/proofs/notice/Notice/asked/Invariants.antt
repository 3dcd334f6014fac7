-- What the words that are left ask for is what all of them ask for.
use Rattle.std.proofs.Common.{◌≡◌, string_bytes, map}
use Rattle.std.specs.Slice.Iter.{iter_rest}
use Rattle.shake_options.specs.Notices.{first_notice}
use Rattle.shake_options.proofs.notice.Notice.asked.Given as goal

abbrev pub invariant-loop-word : goal.invariant-loop-word
invariant-loop-word l =
    (goal.iterator-loop-word).can_next l.words × (goal.iterator-loop-word).is_finite l.words ×
    (first_notice (map string_bytes (iter_rest l.words)) ≡ first_notice (map string_bytes l.args))
