use Rattle.tree_visit.specs.Kinds.{kind_label}
use Rattle.tree_visit.specs.Nodes.{children_forest}
use Rattle.dce_layer_proofs.specs.Goers.{mentions_among, own_mention}
use Rattle.dce_items.proofs.Noting.{two}
use Rattle.dce_items.proofs.known.Known.note.Goals as goal

pub returns : goal.returns
returns c = two c.args.self.now c.args.notes.now.items c.note_own.new.notes.items c.note_all.new.notes.items (own_mention (kind_label c.args.opened.kind)) (mentions_among (children_forest c.args.opened.children)) c.in_ok-note_own.ensures c.in_ok-note_all.ensures
