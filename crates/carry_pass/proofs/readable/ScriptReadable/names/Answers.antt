use Rattle.carry_proofs.proofs.Same.{script_whole}
use Rattle.carry_pass.proofs.readable.ScriptReadable.names.Goals as goal

pub returns-clause-whole : goal.returns-clause-whole
returns-clause-whole c = script_whole c.args.self.now
