use Rattle.std.proofs.Common.{rules, Some, refl, ap, ◌∙◌}
use Rattle.swc_utils.specs.Globals.{unresolved}
use Rattle.swc_utils.specs.Sound.{known}
use Rattle.branch_jumps.specs.Aims.{texts}
use Rattle.branch_loops.specs.Runs.{do_stays}
use Rattle.branch_loops.proofs.Tests.{known_test}
use Rattle.branch_loops.proofs.WithinSteps.{once_runs, once_stays}
use Rattle.branch_loops.proofs.within.turn_do.Goals as goal

pub returns-in_ok-unstopped-in-Some : goal.returns-in_ok-unstopped-in-Some
returns-in_ok-unstopped-in-Some c =
    let mark = unresolved c.args.ctx.now in
    once_runs mark (texts c.args.labels) c.args.n.now _ _ _ c.in-Some.once _ c.run_once.result c.in-Some.is c.run_once.ensures c.deref_mut.ensures.value
    (known_test mark c.as_pure_bool.result _ c.args.n.now.test.value _ c.as_pure_bool.ensures.answer c.deref.ensures (ap known c.in-Known-false.is ∙ ap Some c.in-Known-false.field-0-test))
    c.in_ok-unstopped-in-Some.ensures

pub returns-in-None : goal.returns-in-None
returns-in-None c = once_stays (unresolved c.args.ctx.now) (texts c.args.labels) c.args.n.now _ _ c.run_once.new.body c.run_once.result c.in-None.is c.run_once.ensures c.deref_mut.ensures.value (search rules) refl refl

pub returns-in-Known-true : goal.returns-in-Known-true
returns-in-Known-true c = do_stays refl
