use Rattle.swc_pass.proofs.given_laws.Goals as goal
use Rattle.swc_pass.proofs.InFront.{in_front}

pub returns : goal.returns
returns c = record { in_front = in_front }
