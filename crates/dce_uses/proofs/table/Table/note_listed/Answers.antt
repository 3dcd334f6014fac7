use Rattle.std.proofs.Common.{ap, ◌∙◌}
use Rattle.tree_visit.specs.Kinds.{kind_label}
use Rattle.tree_visit.specs.Nodes.{node_tree, children_forest, next_forest}
use Rattle.swc_names.specs.Ids.{optional}
use Rattle.dce_uses.specs.Noted.{is_hiding}
use Rattle.dce_uses.specs.Listed.{listed}
use Rattle.dce_uses.proofs.Lists.{more_names, no_more_names, listed_split, listed_none}
use Rattle.dce_uses.proofs.table.Table.note_listed.Goals as goal

pub loop-child-preserved : goal.loop-child-preserved
loop-child-preserved c =
    let p = c.args.part in let us = children_forest c.loop-child.left in let ts = children_forest c.in-Some.rest in
    more_names c.args.self.now c.loop-child.self c.hide.new.self is_hiding (listed p (children_forest c.args.children)) (listed p us) (optional c.name_in_list.result) (listed p ts)
    (listed_split p (node_tree c.in-Some.child) ts us (kind_label c.open.result.kind) (optional c.name_in_list.result) (c.next.ensures ∙ ap next_forest c.in-Some.is) c.open.ensures.0 c.name_in_list.ensures)
    c.in_ok-hide.ensures c.loop-child.invariant

pub returns : goal.returns
returns c =
    let p = c.args.part in let us = children_forest c.loop-child.left in
    no_more_names c.args.self.now c.loop-child.self is_hiding (listed p (children_forest c.args.children)) (listed p us)
    (listed_none p us (c.next.ensures ∙ ap next_forest c.in_default.is)) c.loop-child.invariant
