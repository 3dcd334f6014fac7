use Rattle.swc_branch.proofs.Looks.{other_cramped}
use Rattle.swc_branch.proofs.places.is_cramped.Goals as goal

pub returns-in_default : goal.returns-in_default
returns-in_default c = other_cramped _ _ c.in_default.not-Seq
