use Rattle.std.proofs.Common.{ap, ◌∙◌}
use Rattle.std.specs.Box.{with_value}
use Rattle.dce_code.proofs.known.Known.take_boxed.Goals as goal

pub returns-clause-stays : goal.returns-clause-stays
returns-clause-stays c = λ h. ap (with_value c.args.n.now) (c.take_pure.ensures.stays h ∙ c.deref_mut.ensures.value)
