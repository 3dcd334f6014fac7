use Rattle.std.proofs.Common.{◌≡◌, [], ◌∷◌, sym, ap, subst, ◌∙◌}
use Rattle.std.specs.Prelude.{OnOk}
use Rattle.swc_ast.specs.Scope.{joined}
use Rattle.pass_rules.specs.Leaves.{void_tree}
use Rattle.expr_members.proofs.Opened.{trees_of, one_tree, closed_tree, spread_at}
use Rattle.expr_members.proofs.spreads.push_opened.Goals as goal

pub returns-then-not-spreads_item-clause-trees : goal.returns-then-not-spreads_item-clause-trees
returns-then-not-spreads_item-clause-trees c =
    let old = c.args.out.now.items in
    ap trees_of c.in_ok-push.ensures.items ∙ one_tree old c.args.item ∙ ap (joined (trees_of old)) (sym (closed_tree (void_tree (c.args.span ∷ []) (c.args.span ∷ [])) c.args.item (sym c.spreads_item.ensures ∙ c.if-not-spreads_item.true)))

pub returns-in-Some-clause-trees : goal.returns-in-Some-clause-trees
returns-in-Some-clause-trees c =
    subst (λ Z. OnOk c.push_filled.result (trees_of c.push_filled.new.out.items ≡ joined (trees_of c.args.out.now.items) Z))
    (sym (spread_at (void_tree (c.args.span ∷ []) (c.args.span ∷ [])) c.args.item c.in-Some.item c.into_inner.result c.items_of-items.result.items c.in-Some.is c.into_inner.ensures (sym c.spreads_item.ensures ∙ c.if-not-spreads_item.false) c.items_of-items.ensures))
    c.push_filled.ensures.trees
