use Rattle.std.proofs.Common.{[], ◌∷◌, refl}
use Rattle.pass_rules.specs.Leaves.{void_tree}
use Rattle.expr_rules.specs.Spreads.{opened_kinds, opened_items}
use Rattle.expr_members.proofs.Opened.{kinds_of, trees_of, opened_kinds_cons, opened_trees_cons}
use Rattle.expr_members.proofs.Turns.{trees_on, parts_on, trees_end}
use Rattle.expr_members.proofs.spreads.opened.Goals as goal

pub loop-item-preserved : goal.loop-item-preserved
loop-item-preserved c =
    let hole = void_tree (c.args.span ∷ []) (c.args.span ∷ []) in
    let out = c.loop-item.out.items in
    record {
      kinds = parts_on (λ xs. opened_kinds (kinds_of xs) (trees_of xs)) opened_kinds_cons (kinds_of out) _ c.in-Some.item _ _ c.in-Some.ensures.steps.0 c.in_ok-push_opened.ensures.kinds c.loop-item.invariant.kinds;
      trees = trees_on (λ xs. opened_items hole (kinds_of xs) (trees_of xs)) (opened_trees_cons hole) (trees_of out) _ c.in-Some.item _ _ c.in-Some.ensures.steps.0 c.in_ok-push_opened.ensures.trees c.loop-item.invariant.trees;
    }

pub returns-clause-trees : goal.returns-clause-trees
returns-clause-trees c = trees_end (λ xs. opened_items (void_tree (c.args.span ∷ []) (c.args.span ∷ [])) (kinds_of xs) (trees_of xs)) refl _ c.loop-item.item-iterator c.in-None.ensures.steps.0 c.loop-item.invariant.trees
