use Rattle.std.proofs.Common.{ap, ◌∙◌}
use Rattle.tree_visit.specs.Kinds.{kind_label}
use Rattle.tree_visit.specs.Nodes.{node_tree, children_forest, next_forest}
use Rattle.dce_items.proofs.Noting.{goes_on}
use Rattle.dce_items.proofs.Sizes.{rest_within}
use Rattle.dce_items.proofs.known.Known.+note_all.Goals as goal

pub loop-child-preserved : goal.loop-child-preserved
loop-child-preserved t c =
    let is = c.next.ensures ∙ ap next_forest c.in-Some.is in
    let n = node_tree c.in-Some.child in
    let us = children_forest c.loop-child.left in
    let ts = children_forest c.in-Some.rest in (
      goes_on c.args.self.now c.args.notes.now.items c.loop-child.notes.items c.note_own.new.notes.items c.note_all.new.notes.items (children_forest c.args.children) us n ts (kind_label c.open-opened.result.kind) (children_forest c.open-opened.result.children) is c.open-opened.ensures.0 c.open-opened.ensures.1
          c.in_ok-note_own.ensures c.in_ok-note_all.ensures c.loop-child.invariant.0,
      rest_within n ts us _ is c.loop-child.invariant.1,
    )
