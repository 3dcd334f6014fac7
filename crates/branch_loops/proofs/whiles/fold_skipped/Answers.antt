use Rattle.std.proofs.Common.{rules, Some, refl, sym, ap, subst, ◌∙◌}
use Rattle.swc_ast.specs.Views.{expr_tree, stmt_tree}
use Rattle.swc_utils.specs.Globals.{unresolved}
use Rattle.swc_utils.specs.Known.{truth}
use Rattle.swc_utils.specs.Sound.{known}
use Rattle.branch_rules.specs.Turns.{as_it_was}
use Rattle.branch_loops.specs.Bodies.{Outweighs}
use Rattle.branch_loops.proofs.WhileSteps.{skipped_turns}
use Rattle.branch_loops.proofs.whiles.fold_skipped.Goals as goal

pub returns-then-not-outweighs : goal.returns-then-not-outweighs
returns-then-not-outweighs c = as_it_was refl

pub returns-in_ok-take_while-in-Known-false : goal.returns-in_ok-take_while-in-Known-false
returns-in_ok-take_while-in-Known-false c =
    let mark = unresolved c.args.ctx.now in
    skipped_turns mark c.args.n.now _ _ _ _ _ c.in_ok-take_while-in-Known-false.ensures c.in_ok-n-in-Known-false.ensures c.deref-in-Known-false-2.ensures
    (sym (ap (λ x. truth mark (expr_tree x)) c.deref.ensures) ∙ sym c.truth_of.ensures ∙ ap known c.in-Known-false.is ∙ ap Some c.in-Known-false.field-0-test)
    (subst (λ x. Outweighs (stmt_tree x)) c.deref-in-Known-false.ensures (c.outweighs.ensures c.if-not-outweighs.false))
    (search rules) (search rules)

pub returns-in-Known-true : goal.returns-in-Known-true
returns-in-Known-true c = as_it_was refl
