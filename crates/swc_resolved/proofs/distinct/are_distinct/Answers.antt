use Rattle.swc_resolved.proofs.Lists.{one_once}
use Rattle.swc_resolved.proofs.distinct.are_distinct.Goals as goal

pub returns-in-len1 : goal.returns-in-len1
returns-in-len1 c = one_once c.args.names.now c.in-len1.len_below
