use Rattle.swc_branch.proofs.Looks.{other_light}
use Rattle.swc_branch.proofs.places.is_light.Goals as goal

pub returns-in_default : goal.returns-in_default
returns-in_default c = other_light _ c.in_default.not-Lit c.in_default.not-Seq
