use Rattle.std.proofs.Common.{true, Some, None, refl, ap, ◌∙◌}
use Rattle.std.proofs.lemmas.Result.{IfOk-weaker}
use Rattle.swc_ast.specs.Parts.{tree_or_absent}
use Rattle.swc_ast.specs.Redex.{is_truth}
use Rattle.swc_ast.specs.Views.{expr_tree, for_tree}
use Rattle.swc_utils.specs.Globals.{unresolved}
use Rattle.swc_utils.specs.Known.{pure_truth}
use Rattle.swc_utils.specs.Sound.{known}
use Rattle.branch_rules.specs.Turns.{as_it_was}
use Rattle.branch_loops.proofs.ForSteps.{test_goes}
use Rattle.branch_loops.proofs.Tests.{finished_by, for_rests, known_test, not_this}
use Rattle.branch_loops.proofs.fors.fold_test.Goals as goal

pub returns-in_ok-take_for-in-Known-true-clause-steps : goal.returns-in_ok-take_for-in-Known-true-clause-steps
returns-in_ok-take_for-in-Known-true-clause-steps c =
    let mark = unresolved c.args.ctx.now in
    test_goes mark c.args.n.now _ _ _ c.in_ok-take_for-in-Known-true.ensures
    (ap (λ o. pure_truth mark (tree_or_absent expr_tree o)) c.in-Some.is ∙ known_test mark c.as_pure_bool.result _ c.in-Some.test.value _ c.as_pure_bool.ensures.answer c.deref.ensures (ap known c.in-Known-true.is ∙ ap Some c.in-Known-true.field-0-test))
    refl refl refl refl

pub returns-in-Known-false-clause-finished : goal.returns-in-Known-false-clause-finished
returns-in-Known-false-clause-finished c =
    let mark = unresolved c.args.ctx.now in
    let k = ap (λ o. pure_truth mark (tree_or_absent expr_tree o)) c.in-Some.is ∙ known_test mark c.as_pure_bool.result _ c.in-Some.test.value _ c.as_pure_bool.ensures.answer c.deref.ensures (ap known c.in-Known-false.is ∙ ap Some c.in-Known-false.field-0-test) in
    finished_by mark c.fold_never.result (for_tree c.args.n.now) (for_tree c.fold_never.new.n) (IfOk-weaker c.fold_never.result _ _ (λ o h. h mark k) c.fold_never.ensures) (for_rests c.args.n.now (not_this mark true _ _ k refl))

pub returns-in-Unknown-clause-steps : goal.returns-in-Unknown-clause-steps
returns-in-Unknown-clause-steps c = as_it_was refl

pub returns-in-Unknown-clause-finished : goal.returns-in-Unknown-clause-finished
returns-in-Unknown-clause-finished c = λ i.
    let mark = unresolved c.args.ctx.now in
    for_rests c.args.n.now (not_this mark true _ None (ap (λ o. pure_truth mark (tree_or_absent expr_tree o)) c.in-Some.is ∙ known_test mark c.as_pure_bool.result _ c.in-Some.test.value _ c.as_pure_bool.ensures.answer c.deref.ensures (ap known c.in-Unknown.is)) refl)

pub returns-in-None-clause-steps : goal.returns-in-None-clause-steps
returns-in-None-clause-steps c = as_it_was refl

pub returns-in-None-clause-finished : goal.returns-in-None-clause-finished
returns-in-None-clause-finished c = λ i. for_rests c.args.n.now (ap (λ o. is_truth true (tree_or_absent expr_tree o)) c.in-None.is)
