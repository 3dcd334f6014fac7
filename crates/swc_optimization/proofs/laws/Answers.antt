use Rattle.swc_optimization.specs.RoundLaws.{round_lawful}
use Rattle.swc_optimization.proofs.Rows.{rows_are_rounds}
use Rattle.swc_optimization.proofs.Settling.{reached_settled}
use Rattle.swc_optimization.proofs.laws.Goals as goal

pub returns : goal.returns
returns c = record { lawful = round_lawful; rounds = rows_are_rounds; settled = reached_settled }
