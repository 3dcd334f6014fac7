use Rattle.std.proofs.Common.{ap, ◌∙◌, arith}
use Rattle.tree_visit.specs.Kinds.{kind_label}
use Rattle.tree_visit.specs.Nodes.{node_tree, children_forest, next_forest}
use Rattle.carry_vars.proofs.Counting.{whole_noted, one_less, none_left, children_fall, child_falls, rest_within}
use Rattle.carry_vars.proofs.vars.+count.Goals as goal

pub count_all-loop-child-preserved : goal.count_all-loop-child-preserved
count_all-loop-child-preserved t c =
    let is = c.next.ensures ∙ ap next_forest c.in-Some.is in let us = children_forest c.loop-child.left in let ts = children_forest c.in-Some.rest in (
      one_less c.args.table.now c.loop-child.table c.count.new.table (node_tree c.in-Some.child) ts us (children_forest c.args.children) is c.count.ensures c.loop-child.invariant.0,
      rest_within (node_tree c.in-Some.child) ts us (children_forest c.args.children) is c.loop-child.invariant.1,
    )

pub count_all-returns : goal.count_all-returns
count_all-returns t c = none_left c.args.table.now c.loop-child.table (children_forest c.loop-child.left) (children_forest c.args.children) (c.next.ensures ∙ ap next_forest c.in_default.is) c.loop-child.invariant.0

pub count_all-count-requires : goal.count_all-count-requires
count_all-count-requires t c = (let h = child_falls (node_tree c.in-Some.child) (children_forest c.in-Some.rest) (children_forest c.loop-child.left) (children_forest c.args.children) (c.next.ensures ∙ ap next_forest c.in-Some.is) c.loop-child.invariant.1 in omega (arith, h, c.decreases), tt)

pub count-count_all-requires : goal.count-count_all-requires
count-count_all-requires t c = (let h = children_fall (node_tree c.args.n) (children_forest c.open_apart-opened.result.children) c.open_apart-opened.ensures.1 in omega (arith, h, c.decreases), tt)

pub count-returns : goal.count-returns
count-returns t c = whole_noted c.args.table.now c.note.new.table c.count_all.new.table (node_tree c.args.n) (kind_label c.open_apart-opened.result.kind) (children_forest c.open_apart-opened.result.children) c.open_apart-opened.ensures.0 c.open_apart-opened.ensures.1 c.note.ensures c.count_all.ensures
