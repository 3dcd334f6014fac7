-- nothing is left
use Rattle.std.proofs.Common.{◌≡◌, length, sym, ◌∙◌, arith}
use Rattle.text_tokens.proofs.Steps.{ended_at}
use Rattle.text_tokens.proofs.quoted.at_end.Goals as goal

pub returns-then-ends : goal.returns-then-ends
returns-then-ends c = let none : length c.args.value.now ≡ 0 = omega arith in ended_at c.args.quote c.args.value.now c.args.text.now none (sym c.ends.ensures ∙ c.if-ends.true)
