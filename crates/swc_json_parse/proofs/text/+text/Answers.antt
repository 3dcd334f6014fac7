use Rattle.std.proofs.Common.{◌∷◌, [], ◌-◌, sym, ap, ◌∙◌, option_map, false, arith}
use Rattle.swc_ast.specs.Parts.{list_trees}
use Rattle.swc_ast.specs.Views.{expr_tree, prop_or_spread_tree}
use Rattle.tree_keys.specs.Keys.{are_keys, keys_of}
use Rattle.swc_json_parse.specs.Written.{text_within, elements_within, members_within}
use Rattle.swc_json_parse.proofs.Nodes.{no_text, at_lit, at_tpl, at_array, at_object, at_spread, at_key_value, at_shorthand, at_method, member_keyed, keyed}
use Rattle.swc_json_parse.proofs.Pieces.{wrote_none, wrote_at, took, tail_at, tail_front, element_taken, element_fails, member_taken, member_fails}
use Rattle.swc_json_parse.proofs.Within.{array_within, object_within, no_array, no_object}
use Rattle.swc_json_parse.proofs.text.+text.Goals as goal

pub write-returns-in-Lit : goal.write-returns-in-Lit
write-returns-in-Lit g t c = tail_at g.O.Out.takes c.write_lit.result _ _ c.args.out.now c.write_lit.new.out (at_lit c.args.levels c.args.e.now _ c.in-Lit.is) c.write_lit.ensures

pub write-returns-in-Tpl : goal.write-returns-in-Tpl
write-returns-in-Tpl g t c = tail_at g.O.Out.takes c.write_template.result _ _ c.args.out.now c.write_template.new.out (at_tpl c.args.levels c.args.e.now _ c.in-Tpl.is) c.write_template.ensures

pub write-returns-in-Array : goal.write-returns-in-Array
write-returns-in-Array g t c = tail_at g.O.Out.takes c.write_array.result _ _ c.args.out.now c.write_array.new.out (at_array c.args.levels c.args.e.now _ c.in-Array.is) c.write_array.ensures

pub write-returns-in-Object : goal.write-returns-in-Object
write-returns-in-Object g t c = tail_at g.O.Out.takes c.write_object.result _ _ c.args.out.now c.write_object.new.out (at_object c.args.levels c.args.e.now _ c.in-Object.is) c.write_object.ensures

pub write-returns-in_default : goal.write-returns-in_default
write-returns-in_default g t c = wrote_none g.O.Out.takes _ _ _ (no_text c.args.levels c.args.e.now c.in_default.not-Lit c.in_default.not-Tpl c.in_default.not-Array c.in_default.not-Object)

pub write_array-returns-then-levels-eq0 : goal.write_array-returns-then-levels-eq0
write_array-returns-then-levels-eq0 g t c = wrote_none g.O.Out.takes _ _ _ (no_array c.args.levels c.args.n.now (omega arith))

pub write_array-returns : goal.write_array-returns
write_array-returns g t c = tail_front g.O.Out.takes g.met.O.Out.joins c.write_elements.result (91 ∷ []) _ _ c.args.out.now c.push.new.self c.write_elements.new.out
    (array_within c.args.levels c.args.n.now (omega arith) ∙ ap (λ xs. option_map (λ x. 91 ∷ x) (elements_within (c.args.levels - 1) false xs)) (sym c.deref.ensures.value))
    c.in_ok-push.ensures c.write_elements.ensures

pub write_elements-returns-then-not-branch : goal.write_elements-returns-then-not-branch
write_elements-returns-then-not-branch g t c = element_fails g.O.Out.takes c.args.levels c.loop-item.later c.args.items.now c.args.items.now c.loop-item.item-index _ c.in-Some.item c.loop-item.out c.write_comma.new.out c.write.new.out _ c.args.out.now c.in_ok-write-in-Some.field-0 c.loop-item-test.true c.item-item.is c.in-Some.is c.in_default.is c.if-not-branch.true
    (wrote_at g.O.Out.takes _ _ c.write_comma.new.out c.write.new.out c.in_ok-write-in-Some.field-0 (ap (λ e. text_within c.args.levels (expr_tree e)) (sym c.deref.ensures)) c.in_ok-write-in-Some.ensures) c.loop-item.invariant

pub write_elements-loop-item-preserved : goal.write_elements-loop-item-preserved
write_elements-loop-item-preserved g t c = element_taken g.O.Out.takes g.met.O.Out.joins c.args.levels c.loop-item.later c.args.items.now c.args.items.now c.loop-item.item-index _ c.in-Some.item c.loop-item.out c.write_comma.new.out c.write.new.out c.args.out.now c.in_ok-write-in-Some.field-0 c.loop-item-test.true c.item-item.is c.in-Some.is c.in_default.is c.in_ok-write_comma-in-Some.ensures c.if-not-branch.false
    (wrote_at g.O.Out.takes _ _ c.write_comma.new.out c.write.new.out c.in_ok-write-in-Some.field-0 (ap (λ e. text_within c.args.levels (expr_tree e)) (sym c.deref.ensures)) c.in_ok-write-in-Some.ensures) c.loop-item.invariant

pub write_object-returns-then-levels-eq0 : goal.write_object-returns-then-levels-eq0
write_object-returns-then-levels-eq0 g t c = wrote_none g.O.Out.takes _ _ _ (no_object c.args.levels c.args.n.now (omega arith))

pub write_object-returns : goal.write_object-returns
write_object-returns g t c = tail_front g.O.Out.takes g.met.O.Out.joins c.write_members.result (123 ∷ []) _ _ c.args.out.now c.push.new.self c.write_members.new.out
    (object_within c.args.levels c.args.n.now (omega arith) (ap (λ ps. are_keys (keys_of (list_trees prop_or_spread_tree ps))) (sym c.deref.ensures.value) ∙ sym c.in_ok-are_keys.ensures ∙ c.if-not-branch.false)
    ∙ ap (λ ps. option_map (λ x. 123 ∷ x) (members_within (c.args.levels - 1) false (list_trees prop_or_spread_tree ps))) (sym c.deref-2.ensures.value))
    c.in_ok-push.ensures c.write_members.ensures

pub write_members-returns-then-not-branch : goal.write_members-returns-then-not-branch
write_members-returns-then-not-branch g t c = member_fails g.O.Out.takes c.args.levels c.loop-prop.later c.args.props.now c.args.props.now c.loop-prop.prop-index _ c.loop-prop.out c.write_comma.new.out c.write_member.new.out _ c.args.out.now c.in_ok-write_member.field-0 c.loop-prop-test.true c.prop-item.is c.if-not-branch.true c.in_ok-write_member.ensures c.loop-prop.invariant

pub write_members-loop-prop-preserved : goal.write_members-loop-prop-preserved
write_members-loop-prop-preserved g t c = member_taken g.O.Out.takes g.met.O.Out.joins c.args.levels c.loop-prop.later c.args.props.now c.args.props.now c.loop-prop.prop-index _ c.loop-prop.out c.write_comma.new.out c.write_member.new.out c.args.out.now c.in_ok-write_member.field-0 c.loop-prop-test.true c.prop-item.is c.in_ok-write_comma.ensures c.if-not-branch.false c.in_ok-write_member.ensures c.loop-prop.invariant

pub write_member-returns-in-Spread : goal.write_member-returns-in-Spread
write_member-returns-in-Spread g t c = wrote_none g.O.Out.takes _ _ _ (at_spread c.args.levels c.args.prop.now _ c.in-Spread.is)

pub write_member-returns-in-KeyValue : goal.write_member-returns-in-KeyValue
write_member-returns-in-KeyValue g t c = tail_at g.O.Out.takes c.write_key_value.result _ _ c.args.out.now c.write_key_value.new.out (at_key_value c.args.levels c.args.prop.now _ _ c.in-Prop.is c.in-KeyValue.is) c.write_key_value.ensures

pub write_member-returns-in-Method : goal.write_member-returns-in-Method
write_member-returns-in-Method g t c = wrote_none g.O.Out.takes _ _ _ (at_method c.args.levels c.args.prop.now _ _ c.in-Prop.is c.in-Method.is)

pub write_member-returns-in-Shorthand : goal.write_member-returns-in-Shorthand
write_member-returns-in-Shorthand g t c = wrote_none g.O.Out.takes _ _ _ (at_shorthand c.args.levels c.args.prop.now _ _ c.in-Prop.is c.in-Shorthand.is)

pub write_key_value-returns : goal.write_key_value-returns
write_key_value-returns g t c =
    let k = took g.O.Out.takes _ c.args.out.now c.write_key.new.out c.in_ok-write_key.field-0 c.if-not-branch.false c.in_ok-write_key.ensures in
    tail_front g.O.Out.takes g.met.O.Out.joins c.write.result k.text _ _ c.args.out.now c.write_key.new.out c.write.new.out
    (member_keyed c.args.levels c.args.n.now ∙ keyed _ (text_within c.args.levels (expr_tree c.args.n.now.value.value)) k.text k.is) k.taken
    (tail_front g.O.Out.takes g.met.O.Out.joins c.write.result (58 ∷ []) _ _ c.write_key.new.out c.push.new.self c.write.new.out
    (ap (λ e. option_map (λ x. 58 ∷ x) (text_within c.args.levels (expr_tree e))) (sym c.deref.ensures)) c.in_ok-push.ensures c.write.ensures)
