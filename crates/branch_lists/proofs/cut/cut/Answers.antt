use Rattle.std.proofs.Common.{[], ◌∷◌, sym, ap, subst, ◌∙◌}
use Rattle.std.specs.Vec.Iter.{into_iter_steps}
use Rattle.swc_ast.specs.Scope.{joined}
use Rattle.branch_rules.specs.Lists.{Cut}
use Rattle.branch_lists.specs.Exports.{among}
use Rattle.branch_lists.specs.Swept.{trees}
use Rattle.branch_lists.proofs.Lists.{cut_past, cut_end}
use Rattle.branch_lists.proofs.Onto.{adding_none, adding_on, adding_last, adding_end, kept_onto, onto_item}
use Rattle.branch_lists.proofs.Turns.{pushed_item, spent}
use Rattle.branch_lists.proofs.cut.cut.Goals as goal

pub loop-item-init : goal.loop-item-init
loop-item-init g c =
    let f = g.T.StmtLike.item in
    let k = among c.args.kept.now in (
      λ us h. subst (λ xs. Cut k (trees f c.args.items.items) (joined (trees f xs) us)) (sym c.in_ok-out.ensures.items) (subst (λ xs. Cut k (trees f xs) us) c.into_iter-rest.ensures.rest h),
      adding_none c.into_iter-rest.ensures.rest c.in_ok-out.ensures.items,
    )

pub loop-item-preserved : goal.loop-item-preserved
loop-item-preserved g c =
    let f = g.T.StmtLike.item in (
      cut_past (among c.args.kept.now) _ _ _ (trees f c.loop-item.out.items) _ _ (sym c.stops.ensures ∙ c.if-stops.false) (ap (trees f) c.in-Some.ensures.items) (pushed_item f c.loop-item.out.items _ c.in-Some.item c.in_ok-push.ensures.items) c.loop-item.invariant.0,
      adding_on (c.in-Some.item ∷ []) c.in-Some.ensures.items (onto_item c.in_ok-push.ensures.items) c.loop-item.invariant.1,
    )

pub returns-then-stops-clause-kept : goal.returns-then-stops-clause-kept
returns-then-stops-clause-kept g c = kept_onto (adding_last (c.in-Some.ensures.items ∙ ap (λ xs. c.in-Some.item ∷ xs) (sym c.in_ok-behind.ensures)) c.in_ok-push_cut.ensures.kept c.loop-item.invariant.1)

pub returns-clause-cuts : goal.returns-clause-cuts
returns-clause-cuts g c =
    let f = g.T.StmtLike.item in
    cut_end (among c.args.kept.now) _ _ (trees f c.loop-item.out.items) (ap (trees f) (spent c.loop-item.rest (subst (λ o. into_iter_steps c.loop-item.rest o c.next.new.self) c.in_default.is c.next.ensures.cases).0)) c.loop-item.invariant.0

pub returns-clause-kept : goal.returns-clause-kept
returns-clause-kept g c = kept_onto (adding_end c.loop-item.invariant.1)
