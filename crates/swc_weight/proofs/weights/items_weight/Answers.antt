use Rattle.std.proofs.Common.{arith}
use Rattle.swc_weight.proofs.Caps.{items_end}
use Rattle.swc_weight.proofs.weights.items_weight.Goals as goal

pub returns : goal.returns
returns c = items_end c.loop-left.left.now c.loop-left.total _ (omega (arith, c.in_default.len_below)) c.loop-left.invariant.1 c.loop-left.invariant.0
