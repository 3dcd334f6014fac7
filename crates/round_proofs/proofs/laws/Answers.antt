use Rattle.round_proofs.proofs.Rounds.{layers_are_rounds, layers_leave_rest}
use Rattle.round_proofs.proofs.laws.Goals as goal

pub returns : goal.returns
returns c = record { rounds = layers_are_rounds; rest = layers_leave_rest }
