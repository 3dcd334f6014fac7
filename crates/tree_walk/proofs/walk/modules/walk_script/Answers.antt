use Rattle.std.proofs.Common.{refl}
use Rattle.tree_walk.specs.Walks.{shut, whole}
use Rattle.tree_walk.proofs.walk.modules.walk_script.Goals as goal

pub returns-then-not-enters_list : goal.returns-then-not-enters_list
returns-then-not-enters_list g c = shut (c.if-not-enters_list.ensures refl _)

pub returns : goal.returns
returns g c = whole refl c.in_ok-made.ensures
