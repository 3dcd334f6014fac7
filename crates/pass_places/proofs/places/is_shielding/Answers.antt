use Rattle.pass_places.proofs.Views.{short_list, long_list}
use Rattle.pass_places.proofs.places.is_shielding.Goals as goal

pub returns-in_default : goal.returns-in_default
returns-in_default c = short_list _ _ c.in_default.len_below

pub returns-in_default-2 : goal.returns-in_default-2
returns-in_default-2 c = long_list _ _ c.in_default.len_at_least
