use Rattle.std.proofs.Common.{◌≡◌, ◌⊎◌, rules, subst, string_bytes}
use Rattle.std.specs.BTreeMap.{get_by_text}
use Rattle.swc_ast.specs.Marks.{mark_number}
use Rattle.swc_ast.specs.Views.{expr_tree}
use Rattle.swc_ast.specs.declared.errors.PassError.TheVariants.{OutOfMemory}
use Rattle.swc_const_modules.specs.Texts.{Names, IsValue}
use Rattle.swc_const_modules.proofs.Given.{named_in_loop}
use Rattle.swc_const_modules.proofs.Maps.{key_step, key_end, key_start, none_yet, one_more}
use Rattle.swc_const_modules.proofs.read.read_exports.Goals as goal

pub loop-name-init : goal.loop-name-init
loop-name-init c = record {
  texts = λ x. key_start c.new-values.result c.args.texts.now c.into_iter-name-iterator.result x c.new-values.ensures.empty (search rules);
  values = none_yet (λ v. IsValue (mark_number c.args.mark) (expr_tree v)) c.new-values.result c.new-values.ensures.empty;
}

pub loop-name-preserved : goal.loop-name-preserved
loop-name-preserved c = record {
  texts = λ x. key_step c.loop-name.values c.insert.new.self c.in_ok-clone.field-0 c.in-Some.name.now c.in-Ok.value c.in-Some.text.now c.loop-name.name-iterator c.next.new.self x _ (search rules) c.in_ok-insert.ensures.updates c.in-Some.ensures.steps (c.loop-name.invariant.texts x);
  values = one_more (λ v. IsValue (mark_number c.args.mark) (expr_tree v)) c.loop-name.values c.insert.new.self c.in_ok-clone.field-0 c.in-Some.name.now c.in-Ok.value (search rules) c.in_ok-insert.ensures.updates c.in-Ok.ensures.value c.loop-name.invariant.values;
}

pub loop-name-preserved-in_ok-insert : goal.loop-name-preserved-in_ok-insert
loop-name-preserved-in_ok-insert c = record {
  texts = λ x. key_step c.loop-name.values c.insert.new.self c.in_ok-clone.field-0 c.in-Some.name.now c.in-Ok.value c.in-Some.text.now c.loop-name.name-iterator c.next.new.self x _ (search rules) c.in_ok-insert.ensures.updates c.in-Some.ensures.steps (c.loop-name.invariant.texts x);
  values = one_more (λ v. IsValue (mark_number c.args.mark) (expr_tree v)) c.loop-name.values c.insert.new.self c.in_ok-clone.field-0 c.in-Some.name.now c.in-Ok.value (search rules) c.in_ok-insert.ensures.updates c.in-Ok.ensures.value c.loop-name.invariant.values;
}

pub returns-clause-exports : goal.returns-clause-exports
returns-clause-exports c = λ x. key_end c.loop-name.values c.loop-name.name-iterator x _ c.in-None.ensures.steps.0 (c.loop-name.invariant.texts x)

pub returns-in-Err-clause-named : goal.returns-in-Err-clause-named
returns-in-Err-clause-named c = named_in_loop (get_by_text c.loop-name.values (string_bytes c.in-Some.name.now)) c.in-Some.name.now c.in-Some.text.now c.loop-name.name-iterator c.next.new.self c.args.source.now c.args.texts.now c.in-Err.refusal c.in-Some.ensures.steps (c.loop-name.invariant.texts (string_bytes c.in-Some.name.now))
    (subst (λ n. (c.in-Err.refusal ≡ OutOfMemory) ⊎ Names c.args.source.now n c.in-Err.refusal) c.as_str.ensures.value c.in-Err.ensures.named)
