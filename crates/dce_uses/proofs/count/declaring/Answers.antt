use Rattle.tree_visit.specs.Kinds.{kind_label}
use Rattle.dce_uses.proofs.Tallies.{declaring_holds}
use Rattle.dce_uses.proofs.count.declaring.Goals as goal

pub returns : goal.returns
returns c =
    declaring_holds c.empty.result c.with.result c.with-2.result c.args.place (kind_label c.args.kind) c.lets_go.result
    c.empty.ensures c.with.ensures c.with-2.ensures c.lets_go.ensures
