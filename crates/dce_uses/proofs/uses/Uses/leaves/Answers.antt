use Rattle.swc_names.specs.Ids.{ids}
use Rattle.dce_uses.proofs.Leaving.{none_left}
use Rattle.dce_uses.proofs.uses.Uses.leaves.Goals as goal

pub returns : goal.returns
returns c = λ is. none_left c.args.self.now (ids c.args.gone.now) c.args.said c.loop-left.left.now c.in_default.len_below c.loop-left.invariant
