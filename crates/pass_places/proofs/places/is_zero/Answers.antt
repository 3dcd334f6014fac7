use Rattle.pass_places.proofs.Views.{other_zero}
use Rattle.pass_places.proofs.places.is_zero.Goals as goal

pub returns-in_default : goal.returns-in_default
returns-in_default c = other_zero _ c.in_default.not-Lit
