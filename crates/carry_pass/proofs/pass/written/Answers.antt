use Rattle.carry_parts.specs.Carries.{pass_of}
use Rattle.carry_pass.proofs.Making.{made}
use Rattle.carry_pass.proofs.pass.written.Goals as goal

pub returns-clause-answer : goal.returns-clause-answer
returns-clause-answer g c = made (pass_of c.args.pass) _ _ _ _ c.in_ok-reading.reading c.names.ensures.whole c.in_ok-reading.ensures c.in_ok-copy.ensures c.in_ok-put.ensures c.in_ok-export.ensures
