use Rattle.carry_proofs.proofs.Same.{module_whole}
use Rattle.carry_pass.proofs.readable.ModuleReadable.names.Goals as goal

pub returns-clause-whole : goal.returns-clause-whole
returns-clause-whole c = module_whole c.args.self.now
