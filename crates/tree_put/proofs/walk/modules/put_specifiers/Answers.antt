use Rattle.std.proofs.Common.{rules, refl}
use Rattle.tree_put.specs.Walks.{none}
use Rattle.tree_put.proofs.Putting.{each_all, each_more}
use Rattle.tree_put.proofs.ModuleArms.{specifier_goes}
use Rattle.tree_put.proofs.walk.modules.put_specifiers.Goals as goal

pub loop-i-init : goal.loop-i-init
loop-i-init g c = ((refl, λ k d h. refl), none)

pub loop-i-preserved : goal.loop-i-preserved
loop-i-preserved g c = (search rules, each_more _ _ _ c.index_mut.result.now c.export.new.n (search rules) c.loop-i.invariant.0.0 (search rules) (specifier_goes c.index_mut.result.now c.export.new.n c.in_ok-export.ensures) c.loop-i.invariant.1)

pub returns : goal.returns
returns g c = each_all _ _ _ (search rules) c.loop-i.invariant.0.0 c.loop-i.invariant.1
