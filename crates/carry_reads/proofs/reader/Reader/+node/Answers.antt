use Rattle.std.proofs.Common.{ap, ◌∙◌, arith}
use Rattle.tree_visit.specs.Kinds.{kind_label}
use Rattle.tree_visit.specs.Nodes.{node_tree, children_forest, next_forest}
use Rattle.carry_parts.specs.Carries.{pass_of}
use Rattle.carry_reads.specs.Walks.{puts}
use Rattle.carry_reads.proofs.Stating.{grown_fits, added_grown, front_opened}
use Rattle.carry_reads.proofs.Walking.{call_gives, head_room, grown_room, end_grown, node_read, all_left, one_less, none_left, children_fall, child_falls}
use Rattle.carry_reads.proofs.reader.Reader.+node.Goals as goal

pub nodes-loop-child-init : goal.nodes-loop-child-init
nodes-loop-child-init t c = all_left c.args.self.now c.args.place c.args.tables.now (puts c.args.reads.now.items) (children_forest c.args.children)

pub nodes-loop-child-preserved : goal.nodes-loop-child-preserved
nodes-loop-child-preserved t c =
    one_less c.args.self.now c.args.place c.args.tables.now c.loop-child.tables c.node.new.tables (puts c.args.reads.now.items) (puts c.loop-child.reads.items) (puts c.node.new.reads.items)
    (node_tree c.in-Some.child) (children_forest c.in-Some.rest) (children_forest c.loop-child.left) (children_forest c.args.children)
    (c.next.ensures ∙ ap next_forest c.in-Some.is) c.in_ok-node.ensures c.loop-child.invariant

pub nodes-returns : goal.nodes-returns
nodes-returns t c =
    none_left c.args.self.now c.args.place c.args.tables.now c.loop-child.tables (puts c.args.reads.now.items) (puts c.loop-child.reads.items) (children_forest c.loop-child.left) (children_forest c.args.children)
    (c.next.ensures ∙ ap next_forest c.in_default.is) c.loop-child.invariant

pub nodes-node-requires : goal.nodes-node-requires
nodes-node-requires t c =
    let h = child_falls (node_tree c.in-Some.child) (children_forest c.in-Some.rest) (children_forest c.loop-child.left) (children_forest c.args.children) (c.next.ensures ∙ ap next_forest c.in-Some.is) c.loop-child.invariant.smaller in
    (omega (arith, h, c.decreases), (grown_fits c.loop-child.invariant.grown c.requires.fits, grown_room c.args.place.base c.loop-child.invariant.grown c.requires.room))

pub node-nodes-requires : goal.node-nodes-requires
node-nodes-requires t c =
    let h = children_fall (node_tree c.args.n) (children_forest c.open_apart-opened.result.children) c.open_apart-opened.ensures.1 in
    let r = c.args.self.now in (
      omega (arith, h, c.decreases),
      (
        grown_fits (added_grown c.args.tables.now c.add_front.new.ready c.in_ok-add_front.ensures) c.requires.fits,
        head_room (pass_of r.pass) (kind_label c.open_apart-opened.result.kind) c.is_nowhere.result c.next-next.result _ c.args.place c.below-below.result c.below-below.ensures c.next-next.ensures c.requires.room,
      ),
    )

pub node-add_front-requires : goal.node-add_front-requires
node-add_front-requires t c = c.requires.fits.ready

pub node-behind-requires : goal.node-behind-requires
node-behind-requires t c =
    let g = end_grown c.args.self.now c.args.place c.below-below.result c.args.tables.now c.add_front.new.ready c.nodes.new.tables c.leave.new.self c.mark-mark.result (kind_label c.open_apart-opened.result.kind) (children_forest c.open_apart-opened.result.children) (node_tree c.args.n)
    c.requires.fits (front_opened (node_tree c.args.n) (kind_label c.open_apart-opened.result.kind) (children_forest c.open_apart-opened.result.children) c.open_apart-opened.ensures.0 c.open_apart-opened.ensures.1 c.in_ok-add_front.ensures) (puts c.note.new.reads.items) (puts c.nodes.new.reads.items) c.mark-mark.ensures.settled c.mark-mark.ensures.ready c.in_ok-nodes.ensures c.leave.ensures in
    record { fits = grown_fits g c.requires.fits; room = grown_room c.args.place.base g c.requires.room }

pub node-returns : goal.node-returns
node-returns t c = call_gives c.behind.result (λ last.
    node_read c.args.self.now c.args.place c.below-below.result c.args.tables.now c.add_front.new.ready c.nodes.new.tables c.leave.new.self c.mark-mark.result (kind_label c.open_apart-opened.result.kind) (children_forest c.open_apart-opened.result.children) (node_tree c.args.n)
    c.requires.fits (front_opened (node_tree c.args.n) (kind_label c.open_apart-opened.result.kind) (children_forest c.open_apart-opened.result.children) c.open_apart-opened.ensures.0 c.open_apart-opened.ensures.1 c.in_ok-add_front.ensures) c.behind.new.tables c.next-next.result c.is_nowhere.result (puts c.args.reads.now.items) (puts c.note.new.reads.items) (puts c.nodes.new.reads.items)
    c.open_apart-opened.ensures.0 c.open_apart-opened.ensures.1 c.in_ok-note.ensures c.mark-mark.ensures.settled c.mark-mark.ensures.ready c.next-next.ensures c.is_nowhere.ensures c.below-below.ensures c.in_ok-nodes.ensures c.leave.ensures last) c.behind.ensures
