use Rattle.std.proofs.Common.{[], ◌∷◌, ◌++◌, refl, ap, ◌∙◌}
use Rattle.swc_ast.specs.Scope.{joined}
use Rattle.pass_rules.specs.Leaves.{void_tree}
use Rattle.expr_rules.specs.Spreads.{filled_kinds, filled_items}
use Rattle.expr_members.proofs.Opened.{kinds_of, trees_of, one_kind, one_tree, filled_kinds_cons, filled_trees_cons}
use Rattle.expr_members.proofs.Turns.{trees_on, parts_on, trees_end}
use Rattle.expr_members.proofs.spreads.push_filled.Goals as goal

pub loop-item-preserved : goal.loop-item-preserved
loop-item-preserved c =
    let hole = void_tree (c.args.span ∷ []) (c.args.span ∷ []) in
    let out = c.loop-item.out.items in
    record {
      kinds = parts_on (λ xs. filled_kinds (kinds_of xs)) filled_kinds_cons (kinds_of out) _ c.in-Some.item _ _ c.in-Some.ensures.steps.0 (ap kinds_of c.in_ok-push.ensures.items ∙ one_kind out _ ∙ ap (λ ks. kinds_of out ++ ks) c.in_ok-filled.ensures.kinds) c.loop-item.invariant.kinds;
      trees = trees_on (λ xs. filled_items hole (kinds_of xs) (trees_of xs)) (filled_trees_cons hole) (trees_of out) _ c.in-Some.item _ _ c.in-Some.ensures.steps.0 (ap trees_of c.in_ok-push.ensures.items ∙ one_tree out _ ∙ ap (joined (trees_of out)) c.in_ok-filled.ensures.trees) c.loop-item.invariant.trees;
    }

pub returns-clause-trees : goal.returns-clause-trees
returns-clause-trees c = trees_end (λ xs. filled_items (void_tree (c.args.span ∷ []) (c.args.span ∷ [])) (kinds_of xs) (trees_of xs)) refl _ c.loop-item.item-iterator c.in-None.ensures.steps.0 c.loop-item.invariant.trees
