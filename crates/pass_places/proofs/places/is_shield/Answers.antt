use Rattle.pass_places.proofs.Views.{other_shield}
use Rattle.pass_places.proofs.places.is_shield.Goals as goal

pub returns-in_default : goal.returns-in_default
returns-in_default c = other_shield _ _ c.in_default.not-Seq
