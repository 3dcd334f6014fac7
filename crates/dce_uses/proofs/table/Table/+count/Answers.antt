use Rattle.std.proofs.Common.{ap, ◌∙◌, arith}
use Rattle.std.proofs.lemmas.Result.{on_ok_weaker, IfOk-weaker}
use Rattle.tree_visit.specs.Kinds.{kind_label}
use Rattle.tree_visit.specs.Nodes.{node_tree, children_forest, next_forest}
use Rattle.swc_names.specs.Ids.{optional}
use Rattle.dce_uses.specs.Noted.{noted, noted_among, opened_tree}
use Rattle.dce_uses.specs.Sights.{Sees}
use Rattle.dce_uses.proofs.Adding.{begins, goes_on, ends}
use Rattle.dce_uses.proofs.Counting.{counted_so, counted_as, among_split, among_none, child_falls, children_fall}
use Rattle.dce_uses.proofs.Searches.{rest_within}
use Rattle.dce_uses.proofs.Seeing.{seen_at, seen_as, sees_first, sees_more, sees_all}
use Rattle.dce_uses.proofs.table.Table.+count.Goals as goal

pub count_all-loop-child-init : goal.count_all-loop-child-init
count_all-loop-child-init t c =
    let p = c.args.place in let cs = children_forest c.args.children in (
      begins c.args.self.now (λ f x. noted_among f x p cs),
      sees_first c.nothing-seen.result cs c.nothing-seen.ensures.eval c.nothing-seen.ensures.arguments,
      omega arith,
    )

pub count_all-loop-child-preserved : goal.count_all-loop-child-preserved
count_all-loop-child-preserved t c =
    let is = c.next.ensures ∙ ap next_forest c.in-Some.is in
    let p = c.args.place in let n = node_tree c.in-Some.child in let us = children_forest c.loop-child.left in let ts = children_forest c.in-Some.rest in (
      goes_on c.args.self.now c.loop-child.self c.count.new.self (λ f x. noted_among f x p (children_forest c.args.children)) (λ f x. noted f x p n) (λ f x. noted_among f x p ts) (λ f x. noted_among f x p us)
          (λ f x. among_split f x p n ts us is) c.in_ok-more.ensures.notes c.loop-child.invariant.0,
      sees_more c.loop-child.seen c.in_ok-more.more c.or-seen.result n ts us (children_forest c.args.children) is c.in_ok-more.ensures.seen c.or-seen.ensures.eval c.or-seen.ensures.arguments c.loop-child.invariant.1,
      rest_within n ts us _ is c.loop-child.invariant.2,
    )

pub count_all-returns-clause-notes : goal.count_all-returns-clause-notes
count_all-returns-clause-notes t c =
    let p = c.args.place in let us = children_forest c.loop-child.left in
    ends c.args.self.now c.loop-child.self (λ f x. noted_among f x p (children_forest c.args.children)) (λ f x. noted_among f x p us)
    (λ f x. among_none f x p us (c.next.ensures ∙ ap next_forest c.in_default.is)) c.loop-child.invariant.0

pub count_all-returns-clause-seen : goal.count_all-returns-clause-seen
count_all-returns-clause-seen t c = sees_all c.loop-child.seen (children_forest c.loop-child.left) (children_forest c.args.children) (c.next.ensures ∙ ap next_forest c.in_default.is) c.loop-child.invariant.1

pub count_all-count-requires : goal.count_all-count-requires
count_all-count-requires t c = (let h = child_falls (node_tree c.in-Some.child) (children_forest c.in-Some.rest) (children_forest c.loop-child.left) (children_forest c.args.children) (c.next.ensures ∙ ap next_forest c.in-Some.is) c.loop-child.invariant.2 in omega (arith, h, c.decreases), tt)

pub count_node-count_opened-requires : goal.count_node-count_opened-requires
count_node-count_opened-requires t c = (let h = children_fall (node_tree c.args.n) (children_forest c.open.result.children) c.open.ensures.1 in omega (arith, h, c.decreases), tt)

pub count_node-returns-clause-notes : goal.count_node-returns-clause-notes
count_node-returns-clause-notes t c =
    on_ok_weaker c.count_opened.result
    (counted_as c.args.self.now c.count_opened.new.self c.args.place (node_tree c.args.n) (kind_label c.open.result.kind) (children_forest c.open.result.children) c.open.ensures.0 c.open.ensures.1)
    c.count_opened.ensures.notes

pub count_node-returns-clause-seen : goal.count_node-returns-clause-seen
count_node-returns-clause-seen t c =
    IfOk-weaker c.count_opened.result (λ s. Sees s (opened_tree c.open.result)) (λ s. Sees s (node_tree c.args.n))
    (λ s. seen_as (node_tree c.args.n) (kind_label c.open.result.kind) (children_forest c.open.result.children) s c.open.ensures.0 c.open.ensures.1)
    c.count_opened.ensures.seen

pub count_opened-returns-clause-notes : goal.count_opened-returns-clause-notes
count_opened-returns-clause-notes t c =
    counted_so c.args.self.now c.note.new.self c.count_all.new.self c.note_unnamed.new.self c.restore.new.self c.args.place c.below.result (kind_label c.args.opened.kind) (children_forest c.args.opened.children) (optional c.function_name-function.result) c.tally_before-before.result
    c.function_name-function.ensures c.below.ensures c.tally_before-before.ensures c.in_ok-note.ensures c.in_ok-inside.ensures.notes c.in_ok-note_unnamed.ensures c.in_ok-restore.ensures

pub count_opened-returns-clause-seen : goal.count_opened-returns-clause-seen
count_opened-returns-clause-seen t c = seen_at (kind_label c.args.opened.kind) (children_forest c.args.opened.children) c.in_ok-inside.inside c.with.result c.in_ok-inside.ensures.seen c.with.ensures
