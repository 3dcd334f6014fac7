use Rattle.std.proofs.Common.{ap, refl, subst, sym, ◌∙◌}
use Rattle.swc_ast.specs.Parts.{list_trees}
use Rattle.swc_ast.specs.Views.{expr_tree, stmt_tree}
use Rattle.swc_ast.proofs.Equations.{if_tree-is}
use Rattle.swc_utils.specs.Globals.{unresolved}
use Rattle.swc_utils.specs.Known.{truth}
use Rattle.swc_utils.specs.Sound.{known}
use Rattle.branch_parts.specs.Behind.{LeftBehind}
use Rattle.branch_rules.specs.Removes.{Rests}
use Rattle.branch_rules.specs.Turns.{as_it_was}
use Rattle.branch_statements.specs.Arms.{arms}
use Rattle.branch_statements.proofs.Rested.{listed_rests, unknown_rests}
use Rattle.branch_statements.proofs.Turned.{at_if, idle_turns}
use Rattle.branch_statements.proofs.conditions.fold_if.Goals as goal

pub returns-then-not-has_plain_arms-clause-steps : goal.returns-then-not-has_plain_arms-clause-steps
returns-then-not-has_plain_arms-clause-steps c = as_it_was refl

pub returns-then-not-has_plain_arms-clause-finished : goal.returns-then-not-has_plain_arms-clause-finished
returns-then-not-has_plain_arms-clause-finished c = λ h. subst Rests (sym (if_tree-is c.args.n.now)) (listed_rests c.args.n.now.span (expr_tree c.args.n.now.test.value) c.args.n.now.cons.value c.args.n.now.alt (sym c.has_plain_arms.ensures ∙ c.if-not-has_plain_arms.true))

pub returns-then-not-is_idle-clause-steps : goal.returns-then-not-is_idle-clause-steps
returns-then-not-is_idle-clause-steps c = as_it_was refl

pub returns-then-not-is_idle-clause-finished : goal.returns-then-not-is_idle-clause-finished
returns-then-not-is_idle-clause-finished c =
    let mark = unresolved c.args.ctx.now in
    λ h. subst Rests (sym (if_tree-is c.args.n.now))
    (unknown_rests mark c.args.n.now.span (expr_tree c.args.n.now.test.value) (arms c.args.n.now)
    (sym (ap (λ e. truth mark (expr_tree e)) c.deref.ensures) ∙ sym c.cast_to_bool.ensures.truth ∙ ap known c.in_default.is)
    (sym c.has_empty_alt.ensures.answer ∙ c.if-has_empty_alt.false))

pub returns-clause-steps : goal.returns-clause-steps
returns-clause-steps c =
    let mark = unresolved c.args.ctx.now in
    at_if mark c.args.n.now _ _
    (idle_turns mark c.args.n.now.span _ c.args.n.now.test.value (arms c.args.n.now) (list_trees stmt_tree c.new-out.result.items) (list_trees stmt_tree c.push_left.new.out.items) _ c.as_one.result
    (c.is_idle.ensures c.if-not-is_idle.false) (ap (list_trees stmt_tree) c.new-out.ensures.items)
    (subst (λ e. LeftBehind mark (expr_tree e) (list_trees stmt_tree c.new-out.result.items) (list_trees stmt_tree c.push_left.new.out.items)) c.deref_mut.ensures.value c.in_ok-push_left.ensures)
    c.as_one.ensures)
