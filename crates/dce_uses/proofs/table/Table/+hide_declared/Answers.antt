use Rattle.std.proofs.Common.{ap, ◌∙◌, arith}
use Rattle.tree_visit.specs.Kinds.{kind_label}
use Rattle.tree_visit.specs.Nodes.{node_tree, children_forest, next_forest}
use Rattle.swc_names.specs.Ids.{optional}
use Rattle.dce_uses.proofs.Adding.{begins}
use Rattle.dce_uses.proofs.Counting.{declared_hidden, more_declared, no_more_declared}
use Rattle.dce_uses.proofs.Searches.{inner_falls, rest_within}
use Rattle.dce_uses.proofs.table.Table.+hide_declared.Goals as goal

pub loop-child-init : goal.loop-child-init
loop-child-init t c = (begins c.args.self.now (declared_hidden (children_forest c.args.children)), omega arith)

pub loop-child-preserved : goal.loop-child-preserved
loop-child-preserved t c =
    let is = c.next.ensures ∙ ap next_forest c.in-Some.is in
    let n = node_tree c.in-Some.child in let ts = children_forest c.in-Some.rest in let us = children_forest c.loop-child.left in (
      more_declared c.args.self.now c.loop-child.self c.hide.new.self c.hide_declared.new.self n ts us (children_forest c.open-opened.result.children) (children_forest c.args.children) (kind_label c.open-opened.result.kind) (optional c.declared_name.result)
          is c.open-opened.ensures.0 c.open-opened.ensures.1 c.declared_name.ensures c.in_ok-hide.ensures c.in_ok-hide_declared.ensures c.loop-child.invariant.0,
      rest_within n ts us _ is c.loop-child.invariant.1,
    )

pub returns : goal.returns
returns t c = no_more_declared c.args.self.now c.loop-child.self (children_forest c.loop-child.left) (children_forest c.args.children) (c.next.ensures ∙ ap next_forest c.in_default.is) c.loop-child.invariant.0

pub hide_declared-requires : goal.hide_declared-requires
hide_declared-requires t c =
    let is = c.next.ensures ∙ ap next_forest c.in-Some.is in
    let h = inner_falls (node_tree c.in-Some.child) (children_forest c.in-Some.rest) (children_forest c.loop-child.left) (children_forest c.open-opened.result.children) _ is c.open-opened.ensures.1 c.loop-child.invariant.1 in
    (omega (arith, h, c.decreases), tt)
