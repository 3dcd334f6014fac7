use Rattle.std.proofs.Common.{false, Some, None, refl, ap, ◌∙◌}
use Rattle.std.proofs.lemmas.Result.{IfOk-weaker}
use Rattle.swc_ast.specs.Statements.{while_node}
use Rattle.swc_ast.specs.Views.{loop_trees}
use Rattle.swc_utils.specs.Globals.{unresolved}
use Rattle.swc_utils.specs.Sound.{known}
use Rattle.branch_loops.proofs.Tests.{finished_by, known_test, not_this, while_rests}
use Rattle.branch_loops.proofs.WhileSteps.{never_turns}
use Rattle.branch_loops.proofs.whiles.fold_while.Goals as goal

pub returns-in-Known-true-clause-finished : goal.returns-in-Known-true-clause-finished
returns-in-Known-true-clause-finished c =
    let mark = unresolved c.args.ctx.now in
    let k = known_test mark c.as_pure_bool.result _ c.args.n.now.test.value _ c.as_pure_bool.ensures.answer c.deref.ensures (ap known c.in-Known-true.is ∙ ap Some c.in-Known-true.field-0-test) in
    finished_by mark c.fold_endless.result (while_node (loop_trees c.args.n.now)) (while_node (loop_trees c.fold_endless.new.n)) (IfOk-weaker c.fold_endless.result _ _ (λ o h. h mark k) c.fold_endless.ensures) (while_rests c.args.n.now (not_this mark false _ _ k refl))

pub returns-in_ok-names_left-in-Known-false-clause-steps : goal.returns-in_ok-names_left-in-Known-false-clause-steps
returns-in_ok-names_left-in-Known-false-clause-steps c =
    let mark = unresolved c.args.ctx.now in
    never_turns mark c.args.n.now _ _ _ c.in_ok-names_left-in-Known-false.ensures c.deref-in-Known-false.ensures (known_test mark c.as_pure_bool.result _ c.args.n.now.test.value _ c.as_pure_bool.ensures.answer c.deref.ensures (ap known c.in-Known-false.is ∙ ap Some c.in-Known-false.field-0-test))

pub returns-in-Unknown-clause-finished : goal.returns-in-Unknown-clause-finished
returns-in-Unknown-clause-finished c =
    let mark = unresolved c.args.ctx.now in
    finished_by mark c.fold_skipped.result (while_node (loop_trees c.args.n.now)) (while_node (loop_trees c.fold_skipped.new.n)) c.fold_skipped.ensures
    (while_rests c.args.n.now (not_this mark false _ None (known_test mark c.as_pure_bool.result _ c.args.n.now.test.value _ c.as_pure_bool.ensures.answer c.deref.ensures (ap known c.in-Unknown.is)) refl))
