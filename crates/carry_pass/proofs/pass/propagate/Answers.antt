use Rattle.carry_pass.proofs.Making.{settled}
use Rattle.carry_pass.proofs.pass.propagate.Goals as goal

pub returns-clause-answer : goal.returns-clause-answer
returns-clause-answer g c = settled c.settle.ensures.gives c.in_ok-answer.ensures.answer
