use Rattle.std.proofs.Common.{◌++◌, encode_utf8, encode_utf8_all, sym, ap, ◌∙◌, append_assoc, rules}
use Rattle.std.proofs.Output.{has_written_append}
use Rattle.shake_given.proofs.line.write_told.Goals as goal

pub loop-told-preserved : goal.loop-told-preserved
loop-told-preserved g c = λ plain.
    let so_far = c.loop-told.invariant plain in
    (so_far.0 ++ encode_utf8 c.in-Some.told, has_written_append _ _ _ _ _ _ so_far.1 (search rules), append_assoc so_far.0 (encode_utf8 c.in-Some.told) _ ∙ ap (λ l. so_far.0 ++ encode_utf8_all l) (sym c.in-Some.ensures.steps.1.0) ∙ so_far.2)
