use Rattle.swc_utils.specs.Globals.{unresolved}
use Rattle.tree_visit.specs.Kinds.{kind_label}
use Rattle.tree_visit.specs.Nodes.{node_tree, children_forest}
use Rattle.dce_peel.specs.declared.item.Item.{Item}
use Rattle.dce_items.proofs.Describing.{described_so}
use Rattle.dce_items.proofs.describe.describe.Goals as goal

pub returns-clause-described : goal.returns-clause-described
returns-clause-described c =
    let i : Item = record { name = c.in-Some-goer.name; goers = c.gather_inside.new.goers; notes = c.note.new.notes } in
    described_so (unresolved c.args.ctx.now) _ (node_tree c.args.item) (kind_label c.open-opened.result.kind) (children_forest c.open-opened.result.children) c.in-Some.parts i c.is_void.result c.in_ok-gather_inside.field-0 c.new-goers.result.items c.new-notes.result.items c.in-Some.ensures c.in_ok-gather_inside.ensures c.in_ok-note.ensures c.open-opened.ensures.0 c.open-opened.ensures.1 c.in_ok-uses.ensures.tells c.is_void.ensures c.if-is_void.false c.in-Some-goer.ensures c.new-goers.ensures.items c.if-not-branch.false c.new-notes.ensures.items
