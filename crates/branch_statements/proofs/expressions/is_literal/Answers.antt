use Rattle.swc_ast.specs.Views.{expr_tree}
use Rattle.swc_utils.specs.Globals.{unresolved}
use Rattle.branch_statements.proofs.Rested.{other_word, idle_literal, not_idle_literal}
use Rattle.branch_statements.proofs.expressions.is_literal.Goals as goal

pub returns-in-Lit-clause-idle : goal.returns-in-Lit-clause-idle
returns-in-Lit-clause-idle c = λ h. idle_literal (unresolved c.args.ctx.now) (expr_tree c.args.e.now) _ c.may_have_side_effects.ensures.answer h

pub returns-in-Lit-clause-others : goal.returns-in-Lit-clause-others
returns-in-Lit-clause-others c = λ h. not_idle_literal (unresolved c.args.ctx.now) (expr_tree c.args.e.now) _ c.may_have_side_effects.ensures.answer h

pub returns-in_default-clause-others : goal.returns-in_default-clause-others
returns-in_default-clause-others c = λ h. other_word c.args.e.now c.in_default.not-Lit
