use Rattle.tree_visit.specs.Kinds.{kind_label}
use Rattle.tree_visit.specs.Nodes.{node_tree, children_forest}
use Rattle.dce_uses.proofs.Items.{item_told}
use Rattle.dce_uses.proofs.uses.Uses.of_item.Goals as goal

pub returns-clause-tells : goal.returns-clause-tells
returns-clause-tells c =
    item_told c.nothing-uses.result c.note_item.new.self (node_tree c.args.item) (kind_label c.open.result.kind) (children_forest c.open.result.children)
    c.nothing-uses.ensures c.open.ensures.0 c.open.ensures.1 c.in_ok-note_item.ensures.notes
