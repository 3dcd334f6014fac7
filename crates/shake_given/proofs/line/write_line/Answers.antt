use Rattle.std.proofs.Common.{[], ◌∷◌, ◌++◌, flat_map, encode_utf8_all, sym, ap, ◌∙◌, append-nil, map-id, rules}
use Rattle.std.proofs.Output.{has_written_append, has_written_of_eq}
use Rattle.std.proofs.lemmas.Grind.{flat_map-append}
use Rattle.std.proofs.lemmas.Iterator.{YieldsList-from_chars}
use Rattle.std.proofs.lemmas.Iterator.Consumers.{YieldsList-end}
use Rattle.std.proofs.lemmas.Str.{encodes-append}
use Rattle.shake_given.specs.Told.{told_char}
use Rattle.shake_given.proofs.line.write_line.Goals as goal

pub loop-c-preserved : goal.loop-c-preserved
loop-c-preserved g c = λ plain.
    has_written_of_eq _ _ _ _ _
    (sym (encodes-append (flat_map told_char c.loop-c.yielded) (told_char c.in-Some.c))
    ∙ ap (λ l. encode_utf8_all (flat_map told_char c.loop-c.yielded ++ l)) (sym (append-nil (told_char c.in-Some.c)))
    ∙ ap encode_utf8_all (sym (flat_map-append told_char c.loop-c.yielded (c.in-Some.c ∷ []))))
    (has_written_append _ _ _ _ _ _ (c.loop-c.invariant plain) (search rules))

pub returns : goal.returns
returns g c = λ plain ok.
    let done = YieldsList-end (YieldsList-from_chars c.args.text.now c.utf8.text cc) c.loop-c.yielded _ c.loop-c.yielded_by _ _ c.in-None.is c.next.ensures.steps in
    has_written_of_eq _ _ _ _ _ (ap (λ cs. encode_utf8_all (flat_map told_char cs)) (sym (map-id c.loop-c.yielded) ∙ done.0)) (c.loop-c.invariant plain)
