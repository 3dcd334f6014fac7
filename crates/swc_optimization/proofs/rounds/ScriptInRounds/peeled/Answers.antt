use Rattle.swc_pass.specs.Repeat.{none}
use Rattle.swc_optimization.proofs.rounds.ScriptInRounds.peeled.Goals as goal

pub returns-clause-rounds : goal.returns-clause-rounds
returns-clause-rounds c = none
