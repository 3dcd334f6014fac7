use Rattle.const_pass.proofs.Scripts.{script_same}
use Rattle.const_pass.proofs.pass.ConstModules.fold_script.Goals as goal

pub returns-clause-same : goal.returns-clause-same
returns-clause-same c = script_same c.args.self.now.given c.args.script
