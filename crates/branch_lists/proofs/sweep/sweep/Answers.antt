use Rattle.std.proofs.Common.{rules, [], ◌∷◌, refl, sym, ap, ◌∙◌}
use Rattle.swc_ast.specs.Modules.{item_tree}
use Rattle.swc_ast.specs.Scope.{joined}
use Rattle.swc_utils.proofs.Chains.{joined_none}
use Rattle.branch_lists.specs.Swept.{trees, swept, swept_item}
use Rattle.branch_lists.proofs.Lists.{swept_first}
use Rattle.branch_lists.proofs.Onto.{adding_none, adding_on, adding_end, kept_onto}
use Rattle.branch_lists.proofs.Turns.{trees_on, trees_end}
use Rattle.branch_lists.proofs.sweep.sweep.Goals as goal

pub loop-item-init : goal.loop-item-init
loop-item-init g c = (search rules, adding_none c.into_iter-item-iterator.ensures.into_iter_gives.0 c.in_ok-out.ensures.items)

pub loop-item-preserved : goal.loop-item-preserved
loop-item-preserved g c =
    let f = g.T.StmtLike.item in
    let out = trees f c.loop-item.out.items in (
      trees_on (λ xs. swept (trees f xs)) (λ x xs. swept_first (item_tree (f x)) (trees f xs)) out _ c.in-Some.item _ _ c.in-Some.ensures.steps.0 (c.in_ok-push_swept.ensures.swept ∙ ap (joined out) (sym (joined_none (swept_item (item_tree (f c.in-Some.item)))))) c.loop-item.invariant.0,
      adding_on (c.in-Some.item ∷ []) c.in-Some.ensures.steps.0 c.in_ok-push_swept.ensures.kept c.loop-item.invariant.1,
    )

pub returns-clause-swept : goal.returns-clause-swept
returns-clause-swept g c = trees_end (λ xs. swept (trees g.T.StmtLike.item xs)) refl _ c.loop-item.item-iterator c.in-None.ensures.steps.0 c.loop-item.invariant.0

pub returns-clause-kept : goal.returns-clause-kept
returns-clause-kept g c = kept_onto (adding_end c.loop-item.invariant.1)
