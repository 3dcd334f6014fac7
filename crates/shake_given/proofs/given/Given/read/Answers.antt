use Rattle.std.proofs.Common.{map}
use Rattle.shake_options.specs.Flags.{flag_texts}
use Rattle.shake_given.specs.Refusals.{FlagRefused}
use Rattle.shake_given.proofs.Refusals.{returned}
use Rattle.shake_given.proofs.Turns.{none_read, one_read, all_read, one_refused}
use Rattle.shake_given.proofs.given.Given.read.Goals as goal

pub loop-flag-init : goal.loop-flag-init
loop-flag-init c = none_read c.args.mark c.args.flags.now c.new-given.ensures

pub loop-flag-preserved : goal.loop-flag-preserved
loop-flag-preserved c = one_read c.args.mark c.args.flags.now c.loop-flag.flag-index _ c.loop-flag-test.true c.loop-flag.invariant c.in_ok-take.ensures.takes

pub returns-clause-reads : goal.returns-clause-reads
returns-clause-reads c = all_read c.args.mark c.args.flags.now c.loop-flag.flag-index c.loop-flag-test.false c.loop-flag.invariant

pub returns-in_err-take-clause-refused : goal.returns-in_err-take-clause-refused
returns-in_err-take-clause-refused c = returned c.from_residual.result (FlagRefused (map flag_texts c.args.flags.now) c.args.mark) c.in_err-take.field-0.0 c.from_residual.ensures.1 (one_refused c.args.mark c.args.flags.now c.loop-flag.flag-index _ c.loop-flag-test.true c.loop-flag.invariant c.in_err-take.ensures.refused)
