use Rattle.std.proofs.Common.{rules, [], ◌∷◌, refl}
use Rattle.swc_ast.specs.Modules.{item_tree}
use Rattle.branch_rules.specs.Lists.{staying}
use Rattle.branch_lists.specs.Swept.{trees}
use Rattle.branch_lists.proofs.Lists.{staying_on}
use Rattle.branch_lists.proofs.Onto.{adding_none, adding_on, adding_end}
use Rattle.branch_lists.proofs.Turns.{trees_on, trees_end}
use Rattle.branch_lists.proofs.cut.push_staying.Goals as goal

pub loop-item-init : goal.loop-item-init
loop-item-init g c = (search rules, adding_none c.into_iter-item-iterator.ensures.into_iter_gives.0 refl)

pub loop-item-preserved : goal.loop-item-preserved
loop-item-preserved g c =
    let f = g.T.StmtLike.item in (
      trees_on (λ xs. staying (trees f xs)) (λ x xs. staying_on (item_tree (f x)) (trees f xs)) (trees f c.loop-item.out.items) _ c.in-Some.item _ _ c.in-Some.ensures.steps.0 c.in_ok-push_if_staying.ensures.staying c.loop-item.invariant.0,
      adding_on (c.in-Some.item ∷ []) c.in-Some.ensures.steps.0 c.in_ok-push_if_staying.ensures.kept c.loop-item.invariant.1,
    )

pub returns-clause-staying : goal.returns-clause-staying
returns-clause-staying g c = trees_end (λ xs. staying (trees g.T.StmtLike.item xs)) refl _ c.loop-item.item-iterator c.in-None.ensures.steps.0 c.loop-item.invariant.0

pub returns-clause-kept : goal.returns-clause-kept
returns-clause-kept g c = adding_end c.loop-item.invariant.1
