use Rattle.std.proofs.Common.{not, ◌&&◌, sym, ap, ◌∙◌}
use Rattle.std.proofs.lemmas.Bool.{not-true}
use Rattle.swc_ast.specs.Redex.{is_simple_literal, is_zero}
use Rattle.swc_ast.proofs.Places.{at_expr-Invalid, at_expr-Seq}
use Rattle.expr_operators.proofs.Weights.{heavy_literal, heavy_sequence}
use Rattle.expr_operators.proofs.literals.weighs_two.Goals as goal

pub returns-in-Invalid-clause-literal : goal.returns-in-Invalid-clause-literal
returns-in-Invalid-clause-literal c = λ h. ap (λ t. is_simple_literal t && not (is_zero t)) (at_expr-Invalid _ _ c.in-Invalid.is)

pub returns-in-Lit-clause-heavy : goal.returns-in-Lit-clause-heavy
returns-in-Lit-clause-heavy c = λ h. heavy_literal _ _ c.in-Lit.is (sym c.is_zero_literal.ensures ∙ not-true _ h)

pub returns-in-empty-clause-literal : goal.returns-in-empty-clause-literal
returns-in-empty-clause-literal c = λ h. ap (λ t. is_simple_literal t && not (is_zero t)) (at_expr-Seq _ _ c.in-Seq.is)

pub returns-in-len1-up-clause-heavy : goal.returns-in-len1-up-clause-heavy
returns-in-len1-up-clause-heavy c = λ h. heavy_sequence _ _ _ _ c.in-Seq.is c.as_slice.ensures.value c.in-len1-up.len_at_least c.first-item.is (c.weighs_one.ensures h)

pub returns-in-len1-up-clause-literal : goal.returns-in-len1-up-clause-literal
returns-in-len1-up-clause-literal c = λ h. ap (λ t. is_simple_literal t && not (is_zero t)) (at_expr-Seq _ _ c.in-Seq.is)
