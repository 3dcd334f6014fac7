use Rattle.std.proofs.Common.{◌+◌, ◌-◌, arith}
use Rattle.dce_items.proofs.Rows.{goes_on}
use Rattle.dce_items.proofs.nodes.add_nodes.Goals as goal

pub loop-at-preserved : goal.loop-at-preserved
loop-at-preserved c =
    goes_on c.args.list c.loop-at.at (c.loop-at.at + 1) (c.args.to - c.loop-at.at) (c.args.to - (c.loop-at.at + 1)) c.loop-at.nodes.items c.push.new.self.items _ (omega arith) (omega (arith, c.loop-at-test.true)) c.in_ok-push.ensures.items c.loop-at.invariant
