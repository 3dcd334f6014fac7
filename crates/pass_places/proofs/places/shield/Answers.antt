use Rattle.std.proofs.Common.{refl}
use Rattle.pass_places.proofs.Depths.{shield_depth}
use Rattle.pass_places.proofs.Views.{guarded_at}
use Rattle.pass_places.proofs.places.shield.Goals as goal

pub returns-clause-tree : goal.returns-clause-tree
returns-clause-tree c = guarded_at c.args.e _ refl c.in_ok-exprs.ensures.items

pub returns-clause-depth : goal.returns-clause-depth
returns-clause-depth c = shield_depth c.args.e _ _ c.in_ok-exprs.ensures.items
