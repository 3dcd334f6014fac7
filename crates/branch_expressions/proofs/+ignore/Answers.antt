use Rattle.std.proofs.Common.{rules, true, [], ◌∷◌, map, sym, ap, subst, ◌∙◌}
use Rattle.swc_ast.specs.Expressions.{array_tree, item_kind, item_spans, item_trees, quasi_span, quasi_text}
use Rattle.swc_ast.specs.Parts.{list_trees}
use Rattle.swc_ast.specs.Views.{expr_tree, prop_or_spread_tree}
use Rattle.swc_ast.proofs.Equations.{expr_tree-Array}
use Rattle.swc_utils.specs.Effects.{has_record_spread}
use Rattle.swc_utils.specs.Globals.{unresolved}
use Rattle.swc_utils.specs.Pure.{has_spread, is_pure_callee}
use Rattle.branch_rules.specs.Ignored.{is_function_expression, properties_parts}
use Rattle.branch_expressions.specs.Choices.{Decides}
use Rattle.branch_expressions.specs.Left.{Rested}
use Rattle.branch_expressions.proofs.Adding.{adds_all, adds_more, adds_none, adds_nothing, row_joined}
use Rattle.branch_expressions.proofs.Answered.{sequence_rested, sequence_same, template_rested, call_rested, new_rested, array_rested, object_rested, items_rested, pure_rested, side_known, sides_rested}
use Rattle.branch_expressions.proofs.Arms.{arms_choice, arms_gone_at}
use Rattle.branch_expressions.proofs.ArrayItems.{items_all, items_more, items_none, plain_goes, plain_stays, trees_joined}
use Rattle.branch_expressions.proofs.Made.{nothing_left, some_left}
use Rattle.branch_expressions.proofs.Nodes.{leaves, none_spread, own_alone, properties_row}
use Rattle.branch_expressions.proofs.+ignore.Goals as goal

pub ignored::left_of-returns : goal.ignored::left_of-returns
ignored::left_of-returns t c = leaves (unresolved c.args.ctx.now) (expr_tree c.args.e.now) c.in_ok-rest.rest c.moved.result (c.moved.ensures _ _ c.in_ok-rest.ensures)

pub ignored::left_of-returns-then-goes : goal.ignored::left_of-returns-then-goes
ignored::left_of-returns-then-goes t c = record { changed = true; ignores = c.goes.ensures c.if-goes.true }

pub ignored::rest_of-returns-then-is_value : goal.ignored::rest_of-returns-then-is_value
ignored::rest_of-returns-then-is_value t c = c.is_value.ensures c.if-is_value.true

pub parts::add-returns-then-goes : goal.parts::add-returns-then-goes
parts::add-returns-then-goes t c = adds_nothing _ _ _ (c.goes.ensures c.if-goes.true)

pub operators::rest_of_pure-returns : goal.operators::rest_of_pure-returns
operators::rest_of_pure-returns t c = pure_rested (unresolved c.args.ctx.now) c.args.n.now.op c.args.n.now.span (expr_tree c.args.n.now.left.value) (expr_tree c.args.n.now.right.value) _ (expr_tree c.deref_mut.result.now) (expr_tree c.deref_mut-2.result.now) c.in_ok-left.left c.in_ok-right.right c.only_one.result c.changed.result c.requires.evaluated c.requires.left c.requires.right c.in_ok-left.ensures (ap expr_tree c.deref_mut.ensures.value) c.in_ok-right.ensures (ap expr_tree c.deref_mut-2.ensures.value) c.only_one.ensures c.changed.ensures

pub parts::add-returns-in_ok-made-in-Some : goal.parts::add-returns-in_ok-made-in-Some
parts::add-returns-in_ok-made-in-Some t c = c.in_ok-made-in-Some.ensures _ _ (some_left (unresolved c.args.ctx.now) (expr_tree c.args.e.now) _ _ _ c.in-Some.left c.is_change-is_change.ensures c.in-Some.is (c.moved.ensures _ _ c.in_ok-rest.ensures))

pub parts::add-returns-in-None : goal.parts::add-returns-in-None
parts::add-returns-in-None t c = adds_nothing _ _ _ (nothing_left (unresolved c.args.ctx.now) (expr_tree c.args.e.now) _ _ c.in-None.is (c.moved.ensures _ _ c.in_ok-rest.ensures))

pub lists::keep_plain-returns-in_ok-push_item-in-Some : goal.lists::keep_plain-returns-in_ok-push_item-in-Some
lists::keep_plain-returns-in_ok-push_item-in-Some t c = plain_stays _ _ _ c.in-Some.left c.args.out.now.items c.push_item.new.out.items (some_left (unresolved c.args.ctx.now) (expr_tree c.args.e.now) _ _ _ c.in-Some.left c.is_change-is_change.ensures c.in-Some.is (c.moved.ensures _ _ c.in_ok-rest.ensures)) c.in_ok-push_item-in-Some.ensures.kinds c.in_ok-push_item-in-Some.ensures.trees c.in_ok-push_item-in-Some.ensures.spans

pub lists::keep_plain-returns-in-None : goal.lists::keep_plain-returns-in-None
lists::keep_plain-returns-in-None t c = plain_goes _ _ _ (nothing_left (unresolved c.args.ctx.now) (expr_tree c.args.e.now) _ _ c.in-None.is (c.moved.ensures _ _ c.in_ok-rest.ensures))

pub parts::add_all-loop-i-init : goal.parts::add_all-loop-i-init
parts::add_all-loop-i-init t c = (search rules, adds_none _ _)

pub parts::add_all-loop-i-preserved : goal.parts::add_all-loop-i-preserved
parts::add_all-loop-i-preserved t c = (search rules, adds_more (unresolved c.args.ctx.now) (list_trees expr_tree) (row_joined expr_tree) c.args.es.now.items c.loop-i.i _ _ _ _ _ _ (search rules) (search rules) c.loop-i.invariant.1 c.in_ok-made.ensures)

pub parts::add_all-returns : goal.parts::add_all-returns
parts::add_all-returns t c = adds_all (unresolved c.args.ctx.now) (list_trees expr_tree) (row_joined expr_tree) c.args.es.now.items c.loop-i.i _ _ _ (search rules) c.loop-i.invariant.1

pub parts::add_items-loop-i-init : goal.parts::add_items-loop-i-init
parts::add_items-loop-i-init t c = (search rules, adds_none _ _)

pub parts::add_items-loop-i-preserved : goal.parts::add_items-loop-i-preserved
parts::add_items-loop-i-preserved t c = (search rules, adds_more (unresolved c.args.ctx.now) (item_trees expr_tree) trees_joined c.args.items.now.items c.loop-i.i _ _ _ _ _ _ (search rules) (search rules) c.loop-i.invariant.1 c.in_ok-made.ensures)

pub parts::add_items-returns : goal.parts::add_items-returns
parts::add_items-returns t c = adds_all (unresolved c.args.ctx.now) (item_trees expr_tree) trees_joined c.args.items.now.items c.loop-i.i _ _ _ (search rules) c.loop-i.invariant.1

pub objects::add_props-loop-i-init : goal.objects::add_props-loop-i-init
objects::add_props-loop-i-init t c = (search rules, adds_none _ _)

pub lists::keep_items-loop-i-init : goal.lists::keep_items-loop-i-init
lists::keep_items-loop-i-init t c = (search rules, items_none _ _)

pub lists::keep_items-loop-i-preserved : goal.lists::keep_items-loop-i-preserved
lists::keep_items-loop-i-preserved t c = (search rules, items_more (unresolved c.args.ctx.now) c.args.items.now.items c.loop-i.i _ _ _ _ _ _ (search rules) (search rules) c.loop-i.invariant.1 c.in_ok-made.ensures)

pub lists::keep_items-returns : goal.lists::keep_items-returns
lists::keep_items-returns t c = items_all (unresolved c.args.ctx.now) c.args.items.now.items c.loop-i.i _ _ _ (search rules) c.loop-i.invariant.1

pub objects::add_props-returns : goal.objects::add_props-returns
objects::add_props-returns t c = adds_all (unresolved c.args.ctx.now) (λ ps. properties_parts (unresolved c.args.ctx.now) (list_trees prop_or_spread_tree ps)) (properties_row (unresolved c.args.ctx.now)) c.args.props.now.items c.loop-i.i _ _ _ (search rules) c.loop-i.invariant.1

pub objects::add_props-loop-i-preserved : goal.objects::add_props-loop-i-preserved
objects::add_props-loop-i-preserved t c = (search rules, adds_more (unresolved c.args.ctx.now) (λ ps. properties_parts (unresolved c.args.ctx.now) (list_trees prop_or_spread_tree ps)) (properties_row (unresolved c.args.ctx.now)) c.args.props.now.items c.loop-i.i c.index_mut.result.now _ _ _ _ _ (search rules) (search rules) c.loop-i.invariant.1 (own_alone (unresolved c.args.ctx.now) (prop_or_spread_tree c.index_mut.result.now) _ _ _ (none_spread c.args.props.now.items c.loop-i.i c.index_mut.result.now (search rules) (search rules) c.requires) c.in_ok-made.ensures))

pub objects::rest_of_object-returns : goal.objects::rest_of_object-returns
objects::rest_of_object-returns t c = object_rested (unresolved c.args.ctx.now) (c.args.n.now.span ∷ []) (list_trees prop_or_spread_tree c.args.n.now.props.items) _ c.new-out.result.items c.add_props.new.out.items _ c.as_one.result c.changed.result (c.args.n.now.span ∷ []) (ap (λ xs. has_record_spread (list_trees prop_or_spread_tree xs)) (sym c.deref.ensures.value) ∙ sym c.has_spread_prop.ensures ∙ c.if-has_spread_prop.false) c.new-out.ensures.items c.in_ok-add_props.ensures c.as_one.ensures c.changed.ensures

pub lists::rest_of_sequence-returns-then-made : goal.lists::rest_of_sequence-returns-then-made
lists::rest_of_sequence-returns-then-made t c = sequence_rested (unresolved c.args.ctx.now) (c.args.n.now.span ∷ []) (list_trees expr_tree c.args.n.now.exprs.items) _ c.new-out.result.items c.add_all.new.out.items c.in_ok-made.made c.as_one.result c.changed.result (c.args.n.now.span ∷ []) c.new-out.ensures.items c.if-made.true c.in_ok-made.ensures c.as_one.ensures c.changed.ensures

pub lists::rest_of_sequence-returns : goal.lists::rest_of_sequence-returns
lists::rest_of_sequence-returns t c = sequence_same (unresolved c.args.ctx.now) (c.args.n.now.span ∷ []) (list_trees expr_tree c.args.n.now.exprs.items) c.new-out.result.items c.add_all.new.out.items c.in_ok-made.made c.new-out.ensures.items c.if-made.false c.in_ok-made.ensures

pub lists::rest_of_template-returns : goal.lists::rest_of_template-returns
lists::rest_of_template-returns t c = template_rested (unresolved c.args.ctx.now) (c.args.n.now.span ∷ map quasi_span c.args.n.now.quasis.value.items) (list_trees expr_tree c.args.n.now.exprs.items) _ c.new-out.result.items c.add_all.new.out.items _ c.as_one.result c.changed.result (c.args.n.now.span ∷ []) (map quasi_text c.args.n.now.quasis.value.items) c.new-out.ensures.items c.in_ok-add_all.ensures c.as_one.ensures c.changed.ensures

pub lists::rest_of_call-returns : goal.lists::rest_of_call-returns
lists::rest_of_call-returns t c = call_rested (unresolved c.args.ctx.now) (c.args.n.now.span ∷ []) (list_trees expr_tree c.args.n.now.args.items) _ c.new-out.result.items c.add_all.new.out.items _ c.as_one.result c.changed.result (c.args.n.now.span ∷ []) c.args.n.now.span (expr_tree c.args.n.now.callee.value) (sym (ap (λ x. is_pure_callee (expr_tree x)) c.deref.ensures) ∙ sym c.is_pure_callee.ensures ∙ c.if-not-is_pure_callee.false) c.new-out.ensures.items c.in_ok-add_all.ensures c.as_one.ensures c.changed.ensures

pub lists::rest_of_new-returns : goal.lists::rest_of_new-returns
lists::rest_of_new-returns t c = new_rested (unresolved c.args.ctx.now) (c.args.n.now.span ∷ []) (list_trees expr_tree c.args.n.now.args.items) _ c.new-out.result.items c.add_all.new.out.items _ c.as_one.result c.changed.result (c.args.n.now.span ∷ []) (expr_tree c.args.n.now.callee.value) (sym (ap (λ x. is_function_expression (expr_tree x)) c.deref.ensures) ∙ c.is_idle_function.ensures.function c.if-not-is_idle_function.false) (sym (ap (λ x. is_pure_callee (expr_tree x)) c.deref.ensures) ∙ c.is_idle_function.ensures.idle c.if-not-is_idle_function.false) c.new-out.ensures.items c.in_ok-add_all.ensures c.as_one.ensures c.changed.ensures

pub lists::rest_of_array-returns : goal.lists::rest_of_array-returns
lists::rest_of_array-returns t c = array_rested (unresolved c.args.ctx.now) (c.args.n.now.span ∷ item_spans c.args.n.now.elems.items) (item_trees expr_tree c.args.n.now.elems.items) _ c.new-out.result.items c.add_items.new.out.items _ c.as_one.result c.changed.result (c.args.n.now.span ∷ []) (map item_kind c.args.n.now.elems.items) (ap (λ xs. has_spread (map item_kind xs)) (sym c.deref.ensures.value) ∙ sym c.has_spread.ensures ∙ c.if-has_spread.false) c.new-out.ensures.items c.in_ok-add_items.ensures c.as_one.ensures c.changed.ensures

pub lists::rest_of_spread-returns-then-made : goal.lists::rest_of_spread-returns-then-made
lists::rest_of_spread-returns-then-made t c = items_rested (unresolved c.args.ctx.now) c.args.n.now c.args.n.now.span (array_tree expr_tree c.args.n.now) _ c.new-elems.result.items c.keep_items.new.out.items c.in_ok-made.made c.new-elems.ensures.items c.if-made.true c.in_ok-made.ensures (expr_tree-Array _)

pub operators::rest_of_binary-returns : goal.operators::rest_of_binary-returns
operators::rest_of_binary-returns t c = sides_rested (unresolved c.args.ctx.now) c.args.n.now.op c.args.n.now.span (expr_tree c.args.n.now.left.value) (expr_tree c.args.n.now.right.value) _ _ _ c.new-out.result.items c.add.new.out.items c.add-2.new.out.items _ _ c.as_one.result c.changed.result (c.args.n.now.span ∷ []) (sym c.may_skip.ensures ∙ c.if-may_skip.false) c.new-out.ensures.items c.in_ok-add.ensures (ap expr_tree c.deref_mut.ensures.value) c.in_ok-add-2.ensures (ap expr_tree c.deref_mut-2.ensures.value) c.as_one.ensures c.changed.ensures

pub operators::rest_of_choice-returns-in_ok-left-in-Some-true : goal.operators::rest_of_choice-returns-in_ok-left-in-Some-true
operators::rest_of_choice-returns-in_ok-left-in-Some-true t c =
    side_known (unresolved c.args.ctx.now) c.args.n.now.op c.args.n.now.span (expr_tree c.args.n.now.left.value) (expr_tree c.args.n.now.right.value) _ (expr_tree c.deref.result.now) (expr_tree c.deref_mut.result.now) c.in_ok-left-in-Some-true.left c.changed.result
    (subst (Decides (unresolved c.args.ctx.now) c.args.n.now.op (expr_tree c.deref.result.now)) c.in-Some-true.field-0-test c.in-Some-true.ensures)
    (ap expr_tree c.deref.ensures) c.in_ok-left-in-Some-true.ensures (ap expr_tree c.deref_mut.ensures.value) c.changed.ensures

pub operators::rest_of_arms-returns-then-are_gone : goal.operators::rest_of_arms-returns-then-are_gone
operators::rest_of_arms-returns-then-are_gone t c =
    let mark = unresolved c.args.ctx.now in
    let x = expr_tree c.deref_mut.result.now in
    let y = expr_tree c.deref_mut-2.result.now in
    arms_gone_at mark c.args.n.now.span (expr_tree c.args.n.now.test.value) (expr_tree c.args.n.now.cons.value) (expr_tree c.args.n.now.alt.value) x x y y c.in_ok-cons.cons c.in_ok-alt.alt c.moved-cons.result c.moved-alt.result
    (ap expr_tree c.deref_mut.ensures.value) (ap expr_tree c.deref_mut-2.ensures.value)
    (c.moved-cons.ensures mark x (subst (λ e. Rested mark x (expr_tree e) c.in_ok-cons.cons) (sym c.deref_mut-3.ensures.value) c.in_ok-cons.ensures))
    (c.moved-alt.ensures mark y (subst (λ e. Rested mark y (expr_tree e) c.in_ok-alt.alt) (sym c.deref_mut-4.ensures.value) c.in_ok-alt.ensures))
    (expr_tree c.deref_mut-then-are_gone.result.now) _ c.in_ok-test.test c.changed.result (sym c.are_gone.ensures ∙ c.if-are_gone.true) c.in_ok-test.ensures (ap expr_tree c.deref_mut-then-are_gone.ensures.value) c.changed.ensures

pub operators::rest_of_arms-returns : goal.operators::rest_of_arms-returns
operators::rest_of_arms-returns t c =
    let mark = unresolved c.args.ctx.now in
    let x = expr_tree c.deref_mut.result.now in
    let y = expr_tree c.deref_mut-2.result.now in
    arms_choice mark c.args.n.now.span (expr_tree c.args.n.now.test.value) (expr_tree c.args.n.now.cons.value) (expr_tree c.args.n.now.alt.value) x x y y c.in_ok-cons.cons c.in_ok-alt.alt c.moved-cons.result c.moved-alt.result
    (ap expr_tree c.deref_mut.ensures.value) (ap expr_tree c.deref_mut-2.ensures.value)
    (c.moved-cons.ensures mark x (subst (λ e. Rested mark x (expr_tree e) c.in_ok-cons.cons) (sym c.deref_mut-3.ensures.value) c.in_ok-cons.ensures))
    (c.moved-alt.ensures mark y (subst (λ e. Rested mark y (expr_tree e) c.in_ok-alt.alt) (sym c.deref_mut-4.ensures.value) c.in_ok-alt.ensures))
    (expr_tree c.take-test.result) _ c.in_ok-choice.choice c.changed-2.result (sym c.is_change.ensures ∙ c.if-not-is_change.false) (sym c.are_gone.ensures ∙ c.if-are_gone.false) c.in_ok-choice.ensures (ap expr_tree (c.take-test.ensures ∙ c.deref_mut-5.ensures.value)) c.changed-2.ensures
