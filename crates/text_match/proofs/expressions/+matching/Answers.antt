-- each kind of expression
use Rattle.std.proofs.Common.{◌≡◌, ◌≤◌, ◌+◌, length, sym, ap, subst, ◌∙◌, arith}
use Rattle.swc_ast.proofs.Places.{at_expr-This, at_expr-Ident, at_expr-Lit, at_expr-Unary, at_expr-Bin, at_expr-Cond, at_expr-Member, at_expr-Call, at_expr-Seq, at_expr-Tpl, at_expr-Array, at_expr-Object, at_expr-Update, at_expr-Assign, at_expr-New, at_prop_or_spread-Spread, at_prop_or_spread-Prop, at_prop-Shorthand, at_prop-KeyValue}
use Rattle.swc_ast.specs.Views.{expr_tree}
use Rattle.swc_ast.specs.Expressions.{bin_tree, update_tree, assign_tree}
use Rattle.text_tokens.specs.Tokens.{Name}
use Rattle.text_match.specs.Grammar.{Bare, this, item, last_item, property, last_property}
use Rattle.text_match.proofs.Steps.{where_some, same_tree, unary_at, binary_at, cond_at, dot_at, index_at, all_wrapped, others_more, others_end, row_at, no_arguments_at, arguments_at, comma_at, seq_at, call_at, coalesce_at, new_with_at, new_alone_at, name_target_at, member_target_at, update_before_at, update_behind_at, assign_at, template_at, parts_more, parts_last, array_at, spread_item_at, plain_item_at, listed_item_at, listed_hole_at, items_more, items_last, items_end, object_at, properties_more, properties_last, properties_end, spread_at, same_property, name_value_at, text_value_at, number_value_at, computed_value_at, value_at}
use Rattle.text_match.proofs.expressions.+matching.Goals as goal

pub after_bare-returns-in_ok-after_word-in-This : goal.after_bare-returns-in_ok-after_word-in-This
after_bare-returns-in_ok-after_word-in-This t c = same_tree 19 _ _ (at_expr-This c.args.expr.now c.in-This.field-0 c.in-This.is) (this c.in_ok-after_word-in-This.ensures)

pub after_bare-returns-in_ok-after_ident-in-Ident : goal.after_bare-returns-in_ok-after_ident-in-Ident
after_bare-returns-in_ok-after_ident-in-Ident t c = same_tree 19 _ _ (at_expr-Ident c.args.expr.now c.in-Ident.name c.in-Ident.is) c.in_ok-after_ident-in-Ident.ensures

pub after_bare-returns-in_ok-after_literal-in-Lit : goal.after_bare-returns-in_ok-after_literal-in-Lit
after_bare-returns-in_ok-after_literal-in-Lit t c = same_tree 19 _ _ (at_expr-Lit c.args.expr.now c.in-Lit.literal c.in-Lit.is) c.in_ok-after_literal-in-Lit.ensures

pub after_bare-returns-in_ok-after_unary_expr-in-Unary : goal.after_bare-returns-in_ok-after_unary_expr-in-Unary
after_bare-returns-in_ok-after_unary_expr-in-Unary t c = same_tree 15 _ _ (at_expr-Unary c.args.expr.now c.in-Unary.node c.in-Unary.is) c.in_ok-after_unary_expr-in-Unary.ensures

pub after_bare-returns-in-Bin : goal.after_bare-returns-in-Bin
after_bare-returns-in-Bin t c = where_some _ _ c.after_binary_expr.result (λ found. same_tree found.0 _ _ (at_expr-Bin c.args.expr.now c.in-Bin.node c.in-Bin.is)) c.after_binary_expr.ensures

pub after_bare-returns-in_ok-after_cond-in-Cond : goal.after_bare-returns-in_ok-after_cond-in-Cond
after_bare-returns-in_ok-after_cond-in-Cond t c = same_tree 2 _ _ (at_expr-Cond c.args.expr.now c.in-Cond.node c.in-Cond.is) c.in_ok-after_cond-in-Cond.ensures

pub after_bare-returns-in_ok-after_member-in-Member : goal.after_bare-returns-in_ok-after_member-in-Member
after_bare-returns-in_ok-after_member-in-Member t c = same_tree c.member_level-level.result _ _ (at_expr-Member c.args.expr.now c.in-Member.node c.in-Member.is) c.in_ok-after_member-in-Member.ensures

pub after_bare-returns-in_ok-after_template-in-Tpl : goal.after_bare-returns-in_ok-after_template-in-Tpl
after_bare-returns-in_ok-after_template-in-Tpl t c = same_tree 19 _ _ (at_expr-Tpl c.args.expr.now c.in-Tpl.node c.in-Tpl.is) c.in_ok-after_template-in-Tpl.ensures

pub after_bare-returns-in_ok-after_array-in-Array : goal.after_bare-returns-in_ok-after_array-in-Array
after_bare-returns-in_ok-after_array-in-Array t c = same_tree 19 _ _ (at_expr-Array c.args.expr.now c.in-Array.node c.in-Array.is) c.in_ok-after_array-in-Array.ensures

pub after_bare-returns-in_ok-after_object-in-Object : goal.after_bare-returns-in_ok-after_object-in-Object
after_bare-returns-in_ok-after_object-in-Object t c = same_tree 19 _ _ (at_expr-Object c.args.expr.now c.in-Object.node c.in-Object.is) c.in_ok-after_object-in-Object.ensures

pub after_bare-returns-in_ok-after_update-in-Update : goal.after_bare-returns-in_ok-after_update-in-Update
after_bare-returns-in_ok-after_update-in-Update t c = same_tree 16 _ _ (at_expr-Update c.args.expr.now c.in-Update.node c.in-Update.is) (subst (λ n. Bare 16 (update_tree expr_tree n) c.args.text.now c.in_ok-after_update-in-Update.field-0.now) c.deref.ensures c.in_ok-after_update-in-Update.ensures)

pub after_bare-returns-in_ok-after_assign-in-Assign : goal.after_bare-returns-in_ok-after_assign-in-Assign
after_bare-returns-in_ok-after_assign-in-Assign t c = same_tree 1 _ _ (at_expr-Assign c.args.expr.now c.in-Assign.node c.in-Assign.is) (subst (λ n. Bare 1 (assign_tree expr_tree n) c.args.text.now c.in_ok-after_assign-in-Assign.field-0.now) c.deref-in-Assign.ensures c.in_ok-after_assign-in-Assign.ensures)

pub after_bare-returns-in-New : goal.after_bare-returns-in-New
after_bare-returns-in-New t c = where_some _ _ c.after_new.result (λ found. same_tree found.0 _ _ (at_expr-New c.args.expr.now c.in-New.node c.in-New.is)) c.after_new.ensures

pub after_unary_expr-returns : goal.after_unary_expr-returns
after_unary_expr-returns t c =
    where_some _ _ c.after_expr.result (λ rest. unary_at c.args.node.now c.deref.result.now c.deref-2.result.now c.args.text.now c.in_ok-operand.operand.now rest.now c.deref.ensures c.deref-2.ensures (c.has_operand.ensures c.if-not-has_operand.false) c.in_ok-operand.ensures) c.after_expr.ensures

pub after_binary_expr-returns : goal.after_binary_expr-returns
after_binary_expr-returns t c = subst (λ k. Bare k (bin_tree expr_tree c.args.node.now) c.args.text.now c.in_ok-behind.behind.now) (sym c.strength.ensures) c.in_ok-behind.ensures

pub after_coalesce-returns : goal.after_coalesce-returns
after_coalesce-returns t c =
    let three : c.in_ok-production.production ≡ 3 = omega arith in
    where_some _ _ c.after_expr.result
    (λ rest. coalesce_at c.args.node.now c.deref.result.now c.deref-2.result.now c.in_ok-production.production c.args.text.now c.in_ok-production.behind_left.now c.in_ok-right.right.now rest.now (c.is_coalescing.ensures c.if-not-is_coalescing.false) c.deref.ensures c.deref-2.ensures three c.in_ok-production.ensures c.in_ok-right.ensures)
    c.after_expr.ensures

pub after_new-returns-in-Some : goal.after_new-returns-in-Some
after_new-returns-in-Some t c = new_with_at c.args.node.now c.deref.result.now c.args.text.now c.in_ok-callee.callee.now c.in_ok-behind_callee.behind_callee.now c.in-Some.rest.now c.deref.ensures c.in_ok-callee.ensures c.in_ok-behind_callee.ensures c.in-Some.ensures

pub after_new-returns-then-count-eq0 : goal.after_new-returns-then-count-eq0
after_new-returns-then-count-eq0 t c = let none : length c.args.node.now.args.items ≡ 0 = omega arith in new_alone_at c.args.node.now c.deref.result.now c.args.text.now c.in_ok-callee.callee.now c.in_ok-behind_callee.behind_callee.now c.deref.ensures none c.in_ok-callee.ensures c.in_ok-behind_callee.ensures

pub after_bin-returns : goal.after_bin-returns
after_bin-returns t c =
    where_some _ _ c.after_expr-2.result
    (λ rest. binary_at c.args.node.now c.deref.result.now c.deref-2.result.now c.left_least.result c.right_least.result c.args.text.now c.in_ok-behind_left.behind_left.now c.in_ok-right.right.now rest.now c.deref.ensures c.deref-2.ensures c.left_least.ensures c.right_least.ensures c.in_ok-behind_left.ensures c.in_ok-right.ensures)
    c.after_expr-2.ensures

pub after_cond-returns : goal.after_cond-returns
after_cond-returns t c =
    where_some _ _ c.after_expr-3.result
    (λ rest. cond_at c.args.node.now c.deref.result.now c.deref-2.result.now c.deref-3.result.now c.args.text.now c.in_ok-behind_test.behind_test.now c.in_ok-cons.cons.now c.in_ok-behind_cons.behind_cons.now c.in_ok-alt.alt.now rest.now c.deref.ensures c.deref-2.ensures c.deref-3.ensures c.in_ok-behind_test.ensures c.in_ok-cons.ensures c.in_ok-behind_cons.ensures c.in_ok-alt.ensures)
    c.after_expr-3.ensures

pub after_member-returns-in_ok-word-in-Ident : goal.after_member-returns-in_ok-word-in-Ident
after_member-returns-in_ok-word-in-Ident t c =
    where_some _ _ c.after_name.result
    (λ rest h. dot_at c.args.node.now c.in-Ident.name c.deref.result.now c.args.level c.args.text.now c.in_ok-behind_object.behind_object.now c.in_ok-word-in-Ident.word.now rest.now c.requires.above c.requires.below c.in-Ident.is c.deref.ensures c.in_ok-behind_object.ensures c.in_ok-word-in-Ident.ensures
    (subst (λ w. Name w c.in_ok-word-in-Ident.word.now rest.now) (c.as_bytes.ensures.value ∙ c.as_str.ensures.value) h))
    c.after_name.ensures

pub after_member-returns-in_ok-rest-in-Computed : goal.after_member-returns-in_ok-rest-in-Computed
after_member-returns-in_ok-rest-in-Computed t c =
    where_some _ _ c.after_sign-in-Computed-2.result
    (λ rest. index_at c.args.node.now c.in-Computed.key c.deref.result.now c.deref-in-Computed.result.now c.args.level c.args.text.now c.in_ok-behind_object.behind_object.now c.in_ok-inside-in-Computed.inside.now c.in_ok-rest-in-Computed.rest.now rest.now c.requires.above c.requires.below c.in-Computed.is c.deref.ensures c.deref-in-Computed.ensures c.in_ok-behind_object.ensures c.in_ok-inside-in-Computed.ensures c.in_ok-rest-in-Computed.ensures)
    c.after_sign-in-Computed-2.ensures

pub after_expr-returns : goal.after_expr-returns
after_expr-returns t c =
    let found = c.in_ok-production in let test = c.else-count-eq0-2 in let enough : c.opened-count.result.0 ≡ 0 → c.args.least ≤ found.production = λ z. omega arith in
    where_some _ _ c.closed.result
    (λ rest. all_wrapped c.opened-count.result.0 c.args.least found.production (expr_tree c.args.expr.now) c.args.text.now c.opened-count.result.1.now found.rest.now rest.now c.opened-count.ensures found.ensures enough)
    c.closed.ensures

pub after_others-loop-expr-init : goal.after_others-loop-expr-init
after_others-loop-expr-init t c = λ e h. h

pub after_others-loop-expr-preserved : goal.after_others-loop-expr-preserved
after_others-loop-expr-preserved t c =
    λ e h. c.loop-expr.invariant e (others_more c.args.exprs.now c.loop-expr.expr-index c.expr-item.result c.loop-expr.rest.now c.in_ok-inside.inside.now c.in_ok-rest.rest.now e c.loop-expr-test.true c.expr-item.is c.in_ok-inside.ensures c.in_ok-rest.ensures h)

pub after_others-returns : goal.after_others-returns
after_others-returns t c = c.loop-expr.invariant c.loop-expr.rest.now (others_end c.args.exprs.now c.loop-expr.expr-index c.loop-expr.rest.now (let f = c.loop-expr-test in omega arith))

pub after_row-returns-in_ok-rest-in-len1-up : goal.after_row-returns-in_ok-rest-in-len1-up
after_row-returns-in_ok-rest-in-len1-up t c = where_some _ _ c.after_others.result (λ rest. row_at c.args.exprs.now c.first-item.result c.args.text.now c.in_ok-rest-in-len1-up.rest.now rest.now c.in-len1-up.len_at_least c.first-item.is c.in_ok-rest-in-len1-up.ensures) c.after_others.ensures

pub after_arguments-returns-then-count-eq0 : goal.after_arguments-returns-then-count-eq0
after_arguments-returns-then-count-eq0 t c =
    let none : length c.args.args.now.items ≡ 0 = omega arith in
    where_some _ _ c.after_sign-then-count-eq0.result (λ rest. no_arguments_at c.args.args.now.items c.args.text.now c.in_ok-inside.inside.now rest.now none c.in_ok-inside.ensures) c.after_sign-then-count-eq0.ensures

pub after_arguments-returns-in-Some : goal.after_arguments-returns-in-Some
after_arguments-returns-in-Some t c =
    where_some _ _ c.after_sign-in-Some.result (λ rest. comma_at c.args.args.now.items c.deref.result.now c.args.text.now c.in_ok-inside.inside.now c.in_ok-rest.rest.now c.in-Some.behind.now rest.now c.deref.ensures.value c.in_ok-inside.ensures c.in_ok-rest.ensures c.in-Some.ensures) c.after_sign-in-Some.ensures

pub after_arguments-returns-in-None : goal.after_arguments-returns-in-None
after_arguments-returns-in-None t c =
    where_some _ _ c.after_sign-in-None.result (λ rest. arguments_at c.args.args.now.items c.deref.result.now c.args.text.now c.in_ok-inside.inside.now c.in_ok-rest.rest.now rest.now c.deref.ensures.value c.in_ok-inside.ensures c.in_ok-rest.ensures) c.after_sign-in-None.ensures

pub after_bare-returns-in_ok-after_call-in-Call : goal.after_bare-returns-in_ok-after_call-in-Call
after_bare-returns-in_ok-after_call-in-Call t c = same_tree 17 _ _ (at_expr-Call c.args.expr.now c.in-Call.node c.in-Call.is) c.in_ok-after_call-in-Call.ensures

pub after_bare-returns-in_ok-after_seq-in-Seq : goal.after_bare-returns-in_ok-after_seq-in-Seq
after_bare-returns-in_ok-after_seq-in-Seq t c = same_tree 0 _ _ (at_expr-Seq c.args.expr.now c.in-Seq.node c.in-Seq.is) c.in_ok-after_seq-in-Seq.ensures

pub after_seq-returns : goal.after_seq-returns
after_seq-returns t c = where_some _ _ c.after_row.result (λ rest. seq_at c.args.node.now c.deref.result.now c.args.text.now rest.now c.deref.ensures.value) c.after_row.ensures

pub after_call-returns : goal.after_call-returns
after_call-returns t c = where_some _ _ c.after_arguments.result (λ rest. call_at c.args.node.now c.deref.result.now c.args.text.now c.in_ok-behind_callee.behind_callee.now rest.now c.deref.ensures c.in_ok-behind_callee.ensures) c.after_arguments.ensures

pub after_target-returns-in-Ident : goal.after_target-returns-in-Ident
after_target-returns-in-Ident t c = where_some _ _ c.after_ident.result (λ rest. name_target_at c.args.target.now c.in-Ident.name c.args.text.now rest.now c.in-Ident.is (sym c.is_writable.ensures ∙ c.if-not-is_writable.false)) c.after_ident.ensures

pub after_target-returns-in-Member : goal.after_target-returns-in-Member
after_target-returns-in-Member t c = where_some _ _ c.after_member.result (λ rest. member_target_at c.args.target.now c.in-Member.member c.args.text.now rest.now c.in-Member.is (sym c.is_writable.ensures ∙ c.if-not-is_writable.false)) c.after_member.ensures

pub after_update-returns-then-in_front : goal.after_update-returns-then-in_front
after_update-returns-then-in_front t c = where_some _ _ c.after_target.result (λ rest. update_before_at c.args.node.now c.update_text.result.now c.args.text.now c.in_ok-target.target.now rest.now c.if-in_front.true c.update_text.ensures c.in_ok-target.ensures) c.after_target.ensures

pub after_update-returns : goal.after_update-returns
after_update-returns t c = where_some _ _ c.after_sign-2.result (λ rest. update_behind_at c.args.node.now c.update_text-2.result.now c.in_ok-line.line c.args.text.now c.in_ok-behind_target.behind_target.now c.in_ok-line.sign.now rest.now c.if-in_front.false c.update_text-2.ensures c.in_ok-behind_target.ensures c.in_ok-line.ensures c.if-line.false) c.after_sign-2.ensures

pub after_assign-returns : goal.after_assign-returns
after_assign-returns t c = where_some _ _ c.after_expr.result (λ rest. assign_at c.args.node.now c.deref.result.now c.assign_text.result.now c.args.text.now c.in_ok-behind_target.behind_target.now c.in_ok-value.value.now rest.now c.deref.ensures c.assign_text.ensures c.in_ok-behind_target.ensures c.in_ok-value.ensures) c.after_expr.ensures

pub after_template-returns : goal.after_template-returns
after_template-returns t c = where_some _ _ c.after_parts.result (λ rest. template_at c.args.node.now c.deref-2.result.now c.deref-3.result.now c.args.text.now c.in_ok-inside.inside.now rest.now (c.deref-2.ensures.value ∙ ap (λ v. v.items) c.deref.ensures) c.deref-3.ensures.value c.in_ok-inside.ensures) c.after_parts.ensures

pub after_parts-loop-expr-init : goal.after_parts-loop-expr-init
after_parts-loop-expr-init t c = λ e h. h

pub after_parts-loop-expr-preserved : goal.after_parts-loop-expr-preserved
after_parts-loop-expr-preserved t c =
    λ e h. c.loop-expr.invariant e (parts_more c.loop-expr.left.now c.in_ok-quasi.quasi.now c.in_ok-quasi.others.now c.args.exprs.now c.loop-expr.expr-index c.expr-item.result c.loop-expr.rest.now c.in_ok-inside.inside.now c.in_ok-behind_expr.behind_expr.now c.in_ok-rest.rest.now e c.loop-expr-test.true c.expr-item.is c.in_ok-quasi.ensures c.in_ok-inside.ensures.0 c.in_ok-inside.ensures.1 c.in_ok-behind_expr.ensures c.in_ok-rest.ensures h)

pub after_parts-returns-then-more-eq0 : goal.after_parts-returns-then-more-eq0
after_parts-returns-then-more-eq0 t c =
    let short : length c.args.exprs.now ≤ c.loop-expr.expr-index = let f = c.loop-expr-test in omega arith in
    let none : length c.in_ok-last.none.now ≡ 0 = omega arith in
    where_some _ _ c.after_quasi-then-more-eq0.result
    (λ rest h. c.loop-expr.invariant rest.now (parts_last c.loop-expr.left.now c.in_ok-last.last.now c.in_ok-last.none.now c.args.exprs.now c.loop-expr.expr-index c.loop-expr.rest.now rest.now short c.in_ok-last.ensures none h.0 h.1))
    c.after_quasi-then-more-eq0.ensures

pub after_array-returns : goal.after_array-returns
after_array-returns t c = where_some _ _ c.after_items.result (λ rest. array_at c.args.node.now c.deref.result.now c.args.text.now c.in_ok-inside.inside.now rest.now c.deref.ensures.value c.in_ok-inside.ensures) c.after_items.ensures

pub after_item-returns-in_ok-inside-in-Some : goal.after_item-returns-in_ok-inside-in-Some
after_item-returns-in_ok-inside-in-Some t c = where_some _ _ c.after_expr.result (λ rest. spread_item_at c.args.item.now c.in-Some.field-0 c.deref.result.now c.args.text.now c.in_ok-inside-in-Some.inside.now rest.now c.in-Some.is c.deref.ensures c.in_ok-inside-in-Some.ensures) c.after_expr.ensures

pub after_item-returns-in-None : goal.after_item-returns-in-None
after_item-returns-in-None t c = where_some _ _ c.after_expr-in-None.result (λ rest. plain_item_at c.args.item.now c.deref-in-None.result.now c.args.text.now rest.now c.in-None.is c.deref-in-None.ensures) c.after_expr-in-None.ensures

pub after_listed_item-returns-in-Some : goal.after_listed_item-returns-in-Some
after_listed_item-returns-in-Some t c = λ ks ts e h. item c.in_ok-behind.ensures c.in-Some.ensures h

pub after_listed_item-returns-in_ok-end-in-None : goal.after_listed_item-returns-in_ok-end-in-None
after_listed_item-returns-in_ok-end-in-None t c = last_item c.in_ok-behind.ensures c.in_ok-end-in-None.ensures

pub after_listed-returns-in-Some : goal.after_listed-returns-in-Some
after_listed-returns-in-Some t c = where_some _ _ c.after_listed_item.result (λ found. listed_item_at found.0 c.args.item.now c.in-Some.inner c.args.text.now found.1.now c.in-Some.is) c.after_listed_item.ensures

pub after_listed-returns-in_ok-next-in-None : goal.after_listed-returns-in_ok-next-in-None
after_listed-returns-in_ok-next-in-None t c = listed_hole_at c.args.item.now c.args.text.now c.in_ok-next-in-None.next.now c.in-None.is c.in_ok-next-in-None.ensures

pub after_items-loop-i-init : goal.after_items-loop-i-init
after_items-loop-i-init t c = λ e h. h

pub after_items-loop-i-preserved : goal.after_items-loop-i-preserved
after_items-loop-i-preserved t c = λ e h. c.loop-i.invariant e (items_more c.args.items.now c.loop-i.i c.index-items-i.result c.in_ok-is_last.is_last c.loop-i.rest.now c.in_ok-is_last.next.now e c.loop-i-test.true c.index-items-i.is c.if-is_last.false c.in_ok-is_last.ensures h)

pub after_items-returns-then-left-eq1 : goal.after_items-returns-then-left-eq1
after_items-returns-then-left-eq1 t c =
    let last : length c.args.items.now ≤ c.loop-i.i + 1 = omega arith in
    c.loop-i.invariant c.in_ok-is_last.next.now (items_last c.args.items.now c.loop-i.i c.index-items-i.result c.in_ok-is_last.is_last c.loop-i.rest.now c.in_ok-is_last.next.now c.loop-i-test.true last c.index-items-i.is c.if-is_last.true c.in_ok-is_last.ensures)

pub after_items-returns : goal.after_items-returns
after_items-returns t c =
    let short : length c.args.items.now ≤ c.loop-i.i = let f = c.loop-i-test in omega arith in
    where_some _ _ c.after_sign.result (λ rest h. c.loop-i.invariant rest.now (items_end c.args.items.now c.loop-i.i c.loop-i.rest.now rest.now short h)) c.after_sign.ensures

pub after_properties-loop-i-init : goal.after_properties-loop-i-init
after_properties-loop-i-init t c = λ e h. h

pub after_properties-loop-i-preserved : goal.after_properties-loop-i-preserved
after_properties-loop-i-preserved t c = λ e h. c.loop-i.invariant e (properties_more c.args.props.now c.loop-i.i c.index-props-i.result c.in_ok-is_last.is_last c.loop-i.rest.now c.in_ok-is_last.next.now e c.loop-i-test.true c.index-props-i.is c.if-is_last.false c.in_ok-is_last.ensures h)

pub after_properties-returns-then-left-eq1 : goal.after_properties-returns-then-left-eq1
after_properties-returns-then-left-eq1 t c =
    let last : length c.args.props.now ≤ c.loop-i.i + 1 = omega arith in
    c.loop-i.invariant c.in_ok-is_last.next.now (properties_last c.args.props.now c.loop-i.i c.index-props-i.result c.in_ok-is_last.is_last c.loop-i.rest.now c.in_ok-is_last.next.now c.loop-i-test.true last c.index-props-i.is c.if-is_last.true c.in_ok-is_last.ensures)

pub after_properties-returns : goal.after_properties-returns
after_properties-returns t c =
    let short : length c.args.props.now ≤ c.loop-i.i = let f = c.loop-i-test in omega arith in
    where_some _ _ c.after_sign.result (λ rest h. c.loop-i.invariant rest.now (properties_end c.args.props.now c.loop-i.i c.loop-i.rest.now rest.now short h)) c.after_sign.ensures

pub after_object-returns : goal.after_object-returns
after_object-returns t c = where_some _ _ c.after_properties.result (λ rest. object_at c.args.node.now c.deref.result.now c.args.text.now c.in_ok-inside.inside.now rest.now c.deref.ensures.value c.in_ok-inside.ensures) c.after_properties.ensures

pub after_listed_property-returns-in-Some : goal.after_listed_property-returns-in-Some
after_listed_property-returns-in-Some t c = λ ts e h. property c.in_ok-behind.ensures c.in-Some.ensures h

pub after_listed_property-returns-in_ok-end-in-None : goal.after_listed_property-returns-in_ok-end-in-None
after_listed_property-returns-in_ok-end-in-None t c = last_property c.in_ok-behind.ensures c.in_ok-end-in-None.ensures

pub after_property-returns-in-Spread : goal.after_property-returns-in-Spread
after_property-returns-in-Spread t c = where_some _ _ c.after_spread.result (λ rest. same_property _ _ (at_prop_or_spread-Spread c.args.prop.now c.in-Spread.node c.in-Spread.is)) c.after_spread.ensures

pub after_property-returns-in-Prop : goal.after_property-returns-in-Prop
after_property-returns-in-Prop t c = where_some _ _ c.after_prop.result (λ rest. same_property _ _ (at_prop_or_spread-Prop c.args.prop.now c.in-Prop.inner c.in-Prop.is)) c.after_prop.ensures

pub after_spread-returns : goal.after_spread-returns
after_spread-returns t c = where_some _ _ c.after_expr.result (λ rest. spread_at c.args.node.now c.deref.result.now c.args.text.now c.in_ok-inside.inside.now rest.now c.deref.ensures c.in_ok-inside.ensures) c.after_expr.ensures

pub after_prop-returns-in-Shorthand : goal.after_prop-returns-in-Shorthand
after_prop-returns-in-Shorthand t c = where_some _ _ c.after_shorthand.result (λ rest. same_property _ _ (at_prop-Shorthand c.args.prop.now c.in-Shorthand.name c.in-Shorthand.is)) c.after_shorthand.ensures

pub after_prop-returns-in-KeyValue : goal.after_prop-returns-in-KeyValue
after_prop-returns-in-KeyValue t c = where_some _ _ c.after_key_value.result (λ rest. same_property _ _ (at_prop-KeyValue c.args.prop.now c.in-KeyValue.node c.in-KeyValue.is)) c.after_key_value.ensures

pub after_value-returns : goal.after_value-returns
after_value-returns t c = where_some _ _ c.after_expr.result (λ rest. value_at c.args.value.now c.args.text.now c.in_ok-inside.inside.now rest.now c.in_ok-inside.ensures) c.after_expr.ensures

pub after_key_value-returns-in_ok-behind_key-in-Ident : goal.after_key_value-returns-in_ok-behind_key-in-Ident
after_key_value-returns-in_ok-behind_key-in-Ident t c = where_some _ _ c.after_value.result (λ rest. name_value_at c.args.node.now c.in-Ident.name c.deref.result.now c.args.text.now c.in_ok-behind_key-in-Ident.behind_key.now rest.now c.in-Ident.is c.deref.ensures c.in_ok-behind_key-in-Ident.ensures) c.after_value.ensures

pub after_key_value-returns-in_ok-behind_key-in-Str : goal.after_key_value-returns-in_ok-behind_key-in-Str
after_key_value-returns-in_ok-behind_key-in-Str t c = where_some _ _ c.after_value-in-Str.result (λ rest. text_value_at c.args.node.now c.in-Str.string c.deref-in-Str.result.now c.args.text.now c.in_ok-behind_key-in-Str.behind_key.now rest.now c.in-Str.is c.deref-in-Str.ensures c.in_ok-behind_key-in-Str.ensures) c.after_value-in-Str.ensures

pub after_key_value-returns-in_ok-behind_key-in-Num : goal.after_key_value-returns-in_ok-behind_key-in-Num
after_key_value-returns-in_ok-behind_key-in-Num t c = where_some _ _ c.after_value-in-Num.result (λ rest. number_value_at c.args.node.now c.in-Num.number c.deref-in-Num.result.now c.args.text.now c.in_ok-behind_key-in-Num.behind_key.now rest.now c.in-Num.is c.deref-in-Num.ensures c.in_ok-behind_key-in-Num.ensures) c.after_value-in-Num.ensures

pub after_key_value-returns-in_ok-behind_key-in-Computed : goal.after_key_value-returns-in_ok-behind_key-in-Computed
after_key_value-returns-in_ok-behind_key-in-Computed t c = where_some _ _ c.after_value-in-Computed.result (λ rest. computed_value_at c.args.node.now c.in-Computed.key c.deref-in-Computed.result.now c.deref-in-Computed-2.result.now c.args.text.now c.in_ok-inside-in-Computed.inside.now c.in_ok-behind_expr-in-Computed.behind_expr.now c.in_ok-behind_key-in-Computed.behind_key.now rest.now c.in-Computed.is c.deref-in-Computed.ensures c.deref-in-Computed-2.ensures c.in_ok-inside-in-Computed.ensures c.in_ok-behind_expr-in-Computed.ensures c.in_ok-behind_key-in-Computed.ensures) c.after_value-in-Computed.ensures
