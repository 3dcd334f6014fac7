use Rattle.std.proofs.Common.{ap, sym, ◌∙◌, ◌||◌, ◌≡◌, false, refl, subst}
use Rattle.swc_ast.specs.Views.{expr_tree}
use Rattle.swc_ast.proofs.Equations.{stmt_tree-Empty, stmt_tree-Expr}
use Rattle.swc_utils.specs.Globals.{unresolved}
use Rattle.swc_utils.specs.Pure.{pure}
use Rattle.branch_rules.specs.Removes.{Rests}
use Rattle.branch_rules.specs.Statements.{is_word}
use Rattle.branch_rules.specs.Turns.{as_it_was}
use Rattle.swc_ast.specs.Redex.{is_number, is_simple_word}
use Rattle.branch_statements.proofs.Rested.{expression_rests, word_rests}
use Rattle.branch_statements.proofs.Turned.{changed_left, nothing_left, pure_turns, same_left}
use Rattle.branch_statements.proofs.expressions.fold_unused.Goals as goal

pub returns-then-is_word-clause-steps : goal.returns-then-is_word-clause-steps
returns-then-is_word-clause-steps c = as_it_was refl

pub returns-then-is_word-clause-finished : goal.returns-then-is_word-clause-finished
returns-then-is_word-clause-finished c = λ none. word_rests c.args.n.now.span (expr_tree c.args.n.now.expr.value) (sym (ap (λ e. is_word (expr_tree e)) c.deref.ensures) ∙ sym c.is_word.ensures ∙ c.if-is_word.true)

pub returns-then-is_literal-clause-steps : goal.returns-then-is_literal-clause-steps
returns-then-is_literal-clause-steps c =
    let mark = unresolved c.args.ctx.now in
    pure_turns mark c.args.n.now.span c.args.n.now.expr.value _ _ (sym (ap (λ e. is_word (expr_tree e)) c.deref.ensures) ∙ sym c.is_word.ensures ∙ c.if-is_word.false) (sym (ap (λ e. pure mark (expr_tree e)) c.deref-2.ensures) ∙ c.is_literal.ensures.idle c.if-is_literal.true) (stmt_tree-Empty _)

pub returns-in-Same-clause-steps : goal.returns-in-Same-clause-steps
returns-in-Same-clause-steps c = as_it_was (same_left (unresolved c.args.ctx.now) c.args.n.now.span c.deref_mut.result.now c.ignore.new.e c.in_ok-ignore.field-0 c.args.n.now.expr.value c.deref_mut.ensures.value c.in-Same.is c.in_ok-ignore.ensures)

pub returns-in-Same-clause-finished : goal.returns-in-Same-clause-finished
returns-in-Same-clause-finished c =
    let mark = unresolved c.args.ctx.now in
    λ none. subst Rests (sym (same_left mark c.args.n.now.span c.deref_mut.result.now c.ignore.new.e c.in_ok-ignore.field-0 c.args.n.now.expr.value c.deref_mut.ensures.value c.in-Same.is c.in_ok-ignore.ensures))
    (expression_rests c.args.n.now.span (expr_tree c.args.n.now.expr.value) (subst (λ e. (is_number (expr_tree e) || is_simple_word (expr_tree e)) ≡ false) c.deref-2.ensures (c.is_literal.ensures.others c.if-is_literal.false)))

pub returns-in-Nothing-clause-steps : goal.returns-in-Nothing-clause-steps
returns-in-Nothing-clause-steps c = nothing_left (unresolved c.args.ctx.now) c.args.n.now.span c.deref_mut.result.now c.ignore.new.e c.in_ok-ignore.field-0 c.args.n.now.expr.value c.deref_mut.ensures.value _ _ (sym (ap (λ e. is_word (expr_tree e)) c.deref.ensures) ∙ sym c.is_word.ensures ∙ c.if-is_word.false) c.in-Nothing.is c.in_ok-ignore.ensures (stmt_tree-Empty _)

pub returns-in_ok-expr-in-Changed-clause-steps : goal.returns-in_ok-expr-in-Changed-clause-steps
returns-in_ok-expr-in-Changed-clause-steps c =
    changed_left (unresolved c.args.ctx.now) c.args.n.now.span c.deref_mut.result.now c.ignore.new.e c.in_ok-ignore.field-0 c.args.n.now.expr.value c.deref_mut.ensures.value _ _ c.in_ok-expr-in-Changed.expr.value (sym (ap (λ e. is_word (expr_tree e)) c.deref.ensures) ∙ sym c.is_word.ensures ∙ c.if-is_word.false) c.in-Changed.is c.in_ok-ignore.ensures
    (ap expr_tree c.in_ok-expr-in-Changed.ensures.ok ∙ c.take_expr.ensures ∙ ap expr_tree c.deref_mut-in-Changed.ensures.value) (stmt_tree-Expr _)
