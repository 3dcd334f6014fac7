use Rattle.std.proofs.Common.{◌∙◌, sym}
use Rattle.std.proofs.lemmas.Bool.{false≢true}
use Rattle.swc_pass.specs.Chain.{input, other}
use Rattle.swc_pass.proofs.whole.settle.Goals as goal

pub returns-then-is_same-clause-gives : goal.returns-then-is_same-clause-gives
returns-then-is_same-clause-gives g c = input (c.is_same.ensures.0 c.if-is_same.true)

pub returns-else-is_same-clause-gives : goal.returns-else-is_same-clause-gives
returns-else-is_same-clause-gives g c = other (λ e. false≢true (sym c.if-is_same.false ∙ c.is_same.ensures.1 e))
