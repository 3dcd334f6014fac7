use Rattle.std.proofs.Common.{refl}
use Rattle.tree_walk.specs.Walks.{shut}
use Rattle.tree_walk.proofs.ModuleArms.{items_then}
use Rattle.tree_walk.proofs.walk.modules.walk_module.Goals as goal

pub returns-then-not-enters_items : goal.returns-then-not-enters_items
returns-then-not-enters_items g c = shut (c.if-not-enters_items.ensures refl _)

pub returns : goal.returns
returns g c = items_then _ _ _ _ _ _ c.in_ok-inside.ensures c.in_ok-left.ensures
