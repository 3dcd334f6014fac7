use Rattle.std.proofs.Common.{◌≡◌, ◌+◌, drop, sym, ap, subst, ◌∙◌}
use Rattle.std.specs.Prelude.{IfOk}
use Rattle.swc_ast.specs.Parts.{list_trees}
use Rattle.swc_ast.specs.Scope.{joined}
use Rattle.swc_ast.specs.Views.{expr_tree, prop_or_spread_tree}
use Rattle.swc_utils.specs.Globals.{unresolved}
use Rattle.swc_utils.specs.Effects.{effects, effects_all, keeps_whole}
use Rattle.swc_ast.specs.Expressions.{item_trees}
use Rattle.swc_utils.proofs.Chains.{joined_assoc}
use Rattle.swc_utils.proofs.Pushes.{unary_whole, unary_part, binary_parts, call_whole, goes_on, ends, item_goes_on, hole_goes_on, items_end, plain_on, vec_trees}
use Rattle.swc_utils.proofs.effects.+effects.Goals.{push_items-in-Some+in_ok-all, push_items-in_default}
use Rattle.swc_utils.proofs.effects.+effects.Goals as goal

pub push_effects-returns-then-keeps_whole : goal.push_effects-returns-then-keeps_whole
push_effects-returns-then-keeps_whole t c = subst (λ Z. IfOk c.push_unless_pure.result (λ r. list_trees expr_tree r.items ≡ joined (list_trees expr_tree c.args.out.items) Z)) (unary_whole (unresolved c.args.ctx) c.args.e.now c.in-Unary.n c.in-Unary.is (ap (λ a. keeps_whole c.in-Unary.n.op (expr_tree a)) (sym c.deref.ensures) ∙ sym c.keeps_whole.ensures ∙ c.if-keeps_whole.true)) c.push_unless_pure.ensures

pub push_effects-returns-else-keeps_whole : goal.push_effects-returns-else-keeps_whole
push_effects-returns-else-keeps_whole t c = subst (λ Z. IfOk c.push_effects.result (λ r. list_trees expr_tree r.items ≡ joined (list_trees expr_tree c.args.out.items) Z)) (ap (λ a. effects (unresolved c.args.ctx) (expr_tree a)) c.deref-in-Unary.ensures ∙ unary_part (unresolved c.args.ctx) c.args.e.now c.in-Unary.n c.in-Unary.is (ap (λ a. keeps_whole c.in-Unary.n.op (expr_tree a)) (sym c.deref.ensures) ∙ sym c.keeps_whole.ensures ∙ c.if-keeps_whole.false)) c.push_effects.ensures

pub push_effects-returns-in_ok-out-in-Bin : goal.push_effects-returns-in_ok-out-in-Bin
push_effects-returns-in_ok-out-in-Bin t c =
    let left = effects (unresolved c.args.ctx) (expr_tree c.deref-in-Bin.result.now) in
    let right = effects (unresolved c.args.ctx) (expr_tree c.deref-in-Bin-2.result.now) in
    let parts = ap (λ a. joined (effects (unresolved c.args.ctx) (expr_tree a)) right) c.deref-in-Bin.ensures ∙ ap (λ a. joined (effects (unresolved c.args.ctx) (expr_tree c.in-Bin.n.left.value)) (effects (unresolved c.args.ctx) (expr_tree a))) c.deref-in-Bin-2.ensures ∙ binary_parts (unresolved c.args.ctx) c.args.e.now c.in-Bin.n c.in-Bin.is (sym c.is_strict.ensures ∙ c.if-not-is_strict.false) in
    subst (λ Z. IfOk c.push_effects-in-Bin-2.result (λ r. list_trees expr_tree r.items ≡ Z)) (ap (λ x. joined x right) c.in_ok-out-in-Bin.ensures ∙ joined_assoc (list_trees expr_tree c.args.out.items) left right ∙ ap (joined (list_trees expr_tree c.args.out.items)) parts) c.push_effects-in-Bin-2.ensures

pub push_effects-returns-in-Call : goal.push_effects-returns-in-Call
push_effects-returns-in-Call t c = subst (λ Z. IfOk c.push_unless_pure-in-Call.result (λ r. list_trees expr_tree r.items ≡ joined (list_trees expr_tree c.args.out.items) Z)) (call_whole (unresolved c.args.ctx) c.args.e.now _ c.in-Call.is) c.push_unless_pure-in-Call.ensures

pub push_all-loop-e-preserved : goal.push_all-loop-e-preserved
push_all-loop-e-preserved t c = goes_on expr_tree (unresolved c.args.ctx) c.args.es.now c.loop-e.e-index _ _ _ c.loop-e-test.true c.e-item.is c.in_ok-all.ensures c.loop-e.invariant

pub push_all-returns : goal.push_all-returns
push_all-returns t c = ends expr_tree (unresolved c.args.ctx) c.args.es.now c.loop-e.e-index _ c.loop-e-test.false c.loop-e.invariant

pub push_items-loop-item-preserved : goal.push_items-loop-item-preserved
push_items-loop-item-preserved t c = elim c.match-item.branch [
  | push_items-in-Some+in_ok-all w ↦ item_goes_on (unresolved c.args.ctx) c.args.items.now c.loop-item.item-index _ w.in-Some.item _ _ c.loop-item-test.true c.item-item.is w.in-Some.is (ap vec_trees w.all-is ∙ w.in_ok-all.ensures ∙ ap (λ e. joined (vec_trees c.loop-item.all) (effects (unresolved c.args.ctx) (expr_tree e))) w.deref.ensures) c.loop-item.invariant
  | push_items-in_default w ↦ ap (λ v. joined (vec_trees v) (effects_all (unresolved c.args.ctx) (item_trees expr_tree (drop (c.loop-item.item-index + 1) c.args.items.now)))) w.all-is ∙ hole_goes_on (unresolved c.args.ctx) c.args.items.now c.loop-item.item-index _ (vec_trees c.loop-item.all) c.loop-item-test.true c.item-item.is w.in_default.is c.loop-item.invariant
]

pub push_items-returns : goal.push_items-returns
push_items-returns t c = items_end (unresolved c.args.ctx) c.args.items.now c.loop-item.item-index _ c.loop-item-test.false c.loop-item.invariant

pub push_props-loop-prop-preserved : goal.push_props-loop-prop-preserved
push_props-loop-prop-preserved t c = record {
  pushed = goes_on prop_or_spread_tree (unresolved c.args.ctx) c.args.props.now c.loop-prop.prop-index _ _ _ c.loop-prop-test.true c.prop-item.is c.in_ok-all.ensures c.loop-prop.invariant.pushed;
  plain = plain_on c.args.props.now c.loop-prop.prop-index _ c.loop-prop-test.true c.prop-item.is c.loop-prop.invariant.plain;
}

pub push_props-returns : goal.push_props-returns
push_props-returns t c = ends prop_or_spread_tree (unresolved c.args.ctx) c.args.props.now c.loop-prop.prop-index _ c.loop-prop-test.false c.loop-prop.invariant.pushed
