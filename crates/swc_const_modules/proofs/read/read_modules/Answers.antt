use Rattle.std.proofs.Common.{rules, ap, ◌∙◌}
use Rattle.std.proofs.lemmas.Map.Iter.{btree_map_turn}
use Rattle.std.specs.BTreeMap.{get_by_text}
use Rattle.std.specs.Map.Iter.{deref_pair}
use Rattle.std.specs.String.{string_cmp_total}
use Rattle.swc_ast.specs.Marks.{mark_number}
use Rattle.swc_const_modules.proofs.Given.{module_step, names_all, all_given, all_to_come, all_values}
use Rattle.swc_const_modules.proofs.Maps.{none_yet, one_more}
use Rattle.swc_const_modules.specs.Texts.{AreValues}
use Rattle.swc_const_modules.proofs.read.read_modules.Goals as goal

pub loop-source-init : goal.loop-source-init
loop-source-init c = record {
  texts = λ x. all_to_come c.new-modules.result c.args.globals.now c.into_iter-source-iterator.result x c.new-modules.ensures.empty (search rules);
  values = none_yet (AreValues (mark_number c.args.mark)) c.new-modules.result c.new-modules.ensures.empty;
}

pub loop-source-preserved : goal.loop-source-preserved
loop-source-preserved c =
    let turn = btree_map_turn deref_pair c.loop-source.yielded c.into_iter-source-iterator.result c.loop-source.source-iterator c.next.new.self c.next.result (c.in-Some.source, c.in-Some.texts) c.loop-source.yielded_by c.in-Some.is c.next.ensures.steps string_cmp_total c.args.globals.now (search rules) (search rules) in
    record {
      texts = λ x. module_step c.loop-source.modules c.insert.new.self c.in_ok-clone.field-0 c.in-Some.source.now c.in-Ok.values c.in-Some.texts.now c.loop-source.source-iterator c.next.new.self c.args.globals.now x (search rules) c.in_ok-insert.ensures.updates c.in-Some.ensures.steps turn.1 c.in-Ok.ensures.exports (c.loop-source.invariant.texts x);
      values = one_more (AreValues (mark_number c.args.mark)) c.loop-source.modules c.insert.new.self c.in_ok-clone.field-0 c.in-Some.source.now c.in-Ok.values (search rules) c.in_ok-insert.ensures.updates c.in-Ok.ensures.values c.loop-source.invariant.values;
    }

pub loop-source-preserved-in_ok-insert : goal.loop-source-preserved-in_ok-insert
loop-source-preserved-in_ok-insert c =
    let turn = btree_map_turn deref_pair c.loop-source.yielded c.into_iter-source-iterator.result c.loop-source.source-iterator c.next.new.self c.next.result (c.in-Some.source, c.in-Some.texts) c.loop-source.yielded_by c.in-Some.is c.next.ensures.steps string_cmp_total c.args.globals.now (search rules) (search rules) in
    record {
      texts = λ x. module_step c.loop-source.modules c.insert.new.self c.in_ok-clone.field-0 c.in-Some.source.now c.in-Ok.values c.in-Some.texts.now c.loop-source.source-iterator c.next.new.self c.args.globals.now x (search rules) c.in_ok-insert.ensures.updates c.in-Some.ensures.steps turn.1 c.in-Ok.ensures.exports (c.loop-source.invariant.texts x);
      values = one_more (AreValues (mark_number c.args.mark)) c.loop-source.modules c.insert.new.self c.in_ok-clone.field-0 c.in-Some.source.now c.in-Ok.values (search rules) c.in_ok-insert.ensures.updates c.in-Ok.ensures.values c.loop-source.invariant.values;
    }

pub returns-clause-given : goal.returns-clause-given
returns-clause-given c = all_given c.loop-source.modules c.loop-source.source-iterator c.args.globals.now c.in-None.ensures.steps.0 c.loop-source.invariant.texts

pub returns-clause-values : goal.returns-clause-values
returns-clause-values c = all_values (mark_number c.args.mark) c.loop-source.modules c.loop-source.invariant.values

pub returns-in-Err-clause-named : goal.returns-in-Err-clause-named
returns-in-Err-clause-named c =
    let turn = btree_map_turn deref_pair c.loop-source.yielded c.into_iter-source-iterator.result c.loop-source.source-iterator c.next.new.self c.next.result (c.in-Some.source, c.in-Some.texts) c.loop-source.yielded_by c.in-Some.is c.next.ensures.steps string_cmp_total c.args.globals.now (search rules) (search rules) in
    names_all c.as_str.result.now c.in-Some.texts.now c.args.globals.now c.in-Err.refusal (ap (get_by_text c.args.globals.now) c.as_str.ensures.value ∙ turn.1) c.in-Err.ensures.named
