use Rattle.dce_uses.proofs.Tallies.{either_holds}
use Rattle.dce_uses.proofs.tally.Tally.and.Goals as goal

pub returns : goal.returns
returns c = either_holds c.args.self c.args.other
