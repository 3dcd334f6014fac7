use Rattle.dce_uses.proofs.Tallies.{counted_holds}
use Rattle.dce_uses.proofs.tally.Tally.counted_as.Goals as goal

pub returns : goal.returns
returns c = counted_holds c.args.self c.args.other
