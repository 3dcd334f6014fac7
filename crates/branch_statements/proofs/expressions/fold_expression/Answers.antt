use Rattle.std.proofs.Common.{ap, sym, ◌∙◌, refl}
use Rattle.swc_ast.specs.Views.{expr_tree}
use Rattle.swc_ast.specs.Redex.{is_text}
use Rattle.branch_rules.specs.Turns.{as_it_was}
use Rattle.branch_statements.proofs.Rested.{text_rests}
use Rattle.branch_statements.proofs.expressions.fold_expression.Goals as goal

pub returns-then-is_directive-clause-steps : goal.returns-then-is_directive-clause-steps
returns-then-is_directive-clause-steps c = as_it_was refl

pub returns-then-is_directive-clause-finished : goal.returns-then-is_directive-clause-finished
returns-then-is_directive-clause-finished c =
    λ none. text_rests c.args.n.now.span (expr_tree c.args.n.now.expr.value) (ap (λ e. is_text (expr_tree e)) (sym c.deref.ensures) ∙ c.is_directive.ensures c.if-is_directive.true)
