use Rattle.dce_uses.proofs.Tallies.{with_holds}
use Rattle.dce_uses.proofs.tally.Tally.with.Goals as goal

pub returns : goal.returns
returns c = with_holds c.args.self c.args.fact c.args.is_so c.place.result c.from.result c.place.ensures c.from.ensures
