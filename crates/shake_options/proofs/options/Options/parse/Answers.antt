use Rattle.std.proofs.Common.{rules, arith, string_bytes}
use Rattle.std.specs.Slice.Iter.{iter_rest}
use Rattle.std.proofs.lemmas.Grind.{common_steps}
use Rattle.shake_options.proofs.Words.{changed_by-switched, changed_by-missing, taken-valued}
use Rattle.shake_options.proofs.options.Options.parse.Goals as goal

pub returns-in_err-next-2 : goal.returns-in_err-next-2
returns-in_err-next-2 c = grind (arith, common_steps, changed_by-missing)

pub loop-word-preserved-in_ok-options : goal.loop-word-preserved-in_ok-options
loop-word-preserved-in_ok-options c = (
  search rules,
  search rules,
  taken-valued string_bytes (iter_rest c.loop-word.words) (iter_rest c.next-in-loop-word.new.self) (iter_rest c.next-then-takes_operand.new.self) c.in-Some.word.now c.in_ok-next-2.field-0.now
      c.loop-word.options c.in_ok-options.options _ (search rules) (search rules) (search rules) (search rules) c.loop-word.invariant.2,
)

pub loop-word-preserved : goal.loop-word-preserved
loop-word-preserved c = grind (arith, common_steps, changed_by-switched)
