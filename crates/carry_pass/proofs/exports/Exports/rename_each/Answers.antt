use Rattle.std.proofs.Common.{rules, refl}
use Rattle.tree_put.specs.Walks.{none}
use Rattle.tree_put.proofs.Putting.{each_all, each_more}
use Rattle.carry_pass.specs.Exports.{binds, values}
use Rattle.carry_pass.proofs.Exporting.{all_renamed}
use Rattle.carry_pass.proofs.exports.Exports.rename_each.Goals as goal

pub loop-i-init : goal.loop-i-init
loop-i-init c = ((refl, λ k d h. refl), none)

pub loop-i-preserved : goal.loop-i-preserved
loop-i-preserved c = (search rules, each_more _ _ _ c.index_mut.result.now c.rename.new.n (search rules) c.loop-i.invariant.0.0 (search rules) c.in_ok-rename.ensures c.loop-i.invariant.1)

pub returns : goal.returns
returns c = all_renamed (binds c.args.self.now) (values c.args.self.now) (each_all _ _ _ (search rules) c.loop-i.invariant.0.0 c.loop-i.invariant.1)
