use Rattle.std.proofs.Common.{ap, ◌∙◌}
use Rattle.carry_vars.specs.declared.tally.Fact.TheVariants as fact
use Rattle.carry_vars.specs.Counts.{count_if}
use Rattle.carry_vars.proofs.tally.Tally.of.Goals as goal

pub returns : goal.returns
returns c = elim [
  | fact.Written ↦ c.of.ensures ∙ ap count_if c.tells.ensures
  | fact.Declared ↦ c.of-2.ensures ∙ ap count_if c.tells-2.ensures
  | fact.Constant ↦ c.of-3.ensures ∙ ap count_if c.tells-3.ensures
  | fact.Lexical ↦ c.of-4.ensures ∙ ap count_if c.tells-4.ensures
  | fact.Variable ↦ c.of-5.ensures ∙ ap count_if c.tells-5.ensures
  | fact.Imported ↦ c.of-6.ensures ∙ ap count_if c.tells-6.ensures
  | fact.Unset ↦ c.of-7.ensures ∙ ap count_if c.tells-7.ensures
  | fact.Set ↦ c.of-8.ensures ∙ ap count_if c.tells-8.ensures
]
