use Rattle.std.proofs.Common.{rules, false, Some, refl, ap, ◌∙◌}
use Rattle.swc_utils.specs.Globals.{unresolved}
use Rattle.swc_utils.specs.Sound.{known}
use Rattle.branch_rules.specs.Turns.{as_it_was}
use Rattle.branch_loops.proofs.OnceSteps.{endless_do, once_do}
use Rattle.branch_loops.proofs.Tests.{and_false, known_test}
use Rattle.branch_loops.proofs.dos.fold_do.Goals as goal

pub returns-in_ok-take_endless-in-Known-true-clause-steps : goal.returns-in_ok-take_endless-in-Known-true-clause-steps
returns-in_ok-take_endless-in-Known-true-clause-steps c =
    let mark = unresolved c.args.ctx.now in
    endless_do mark c.args.n.now _ _ c.in_ok-take_endless-in-Known-true.ensures (known_test mark c.as_pure_bool.result _ c.args.n.now.test.value _ c.as_pure_bool.ensures.answer c.deref.ensures (ap known c.in-Known-true.is ∙ ap Some c.in-Known-true.field-0-test))

pub returns-in-Known-false-clause-steps : goal.returns-in-Known-false-clause-steps
returns-in-Known-false-clause-steps c =
    let mark = unresolved c.args.ctx.now in
    once_do mark c.args.n.now _ _ c.run_once.new.body c.run_once.result c.run_once.ensures (known_test mark c.as_pure_bool.result _ c.args.n.now.test.value _ c.as_pure_bool.ensures.answer c.deref.ensures (ap known c.in-Known-false.is ∙ ap Some c.in-Known-false.field-0-test)) c.deref_mut.ensures.value (search rules) refl refl

pub returns-in-Known-false-clause-finished : goal.returns-in-Known-false-clause-finished
returns-in-Known-false-clause-finished c = λ i. and_false _ false refl

pub returns-in-Unknown-clause-finished : goal.returns-in-Unknown-clause-finished
returns-in-Unknown-clause-finished c = λ i. and_false _ false refl

pub returns-in-Unknown-clause-steps : goal.returns-in-Unknown-clause-steps
returns-in-Unknown-clause-steps c = as_it_was refl
