use Rattle.tree_visit.specs.Kinds.{kind_label}
use Rattle.dce_uses.proofs.Tallies.{naming_holds}
use Rattle.dce_uses.proofs.count.naming.Goals as goal

pub returns : goal.returns
returns c =
    naming_holds c.empty.result c.with.result c.with-2.result c.with-3.result c.args.place (kind_label c.args.kind) c.is_read.result c.is_written.result
    c.empty.ensures c.with.ensures c.with-2.ensures c.with-3.ensures c.is_read.ensures c.is_written.ensures
