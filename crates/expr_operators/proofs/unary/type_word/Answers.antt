use Rattle.std.proofs.Common.{sym, ap, ◌∙◌, Some}
use Rattle.swc_ast.specs.Redex.{is_simple_literal}
use Rattle.swc_ast.proofs.Places.{at_expr-Array, at_expr-Object, at_expr-Fn, at_expr-Unary, at_expr-Update, at_expr-Assign, at_expr-Member, at_expr-Call, at_expr-Lit}
use Rattle.swc_utils.specs.Effects.{is_read}
use Rattle.swc_utils.proofs.EffectNodes.{read-lit, read-unary}
use Rattle.swc_utils.proofs.LiteralNodes.{literal-unary, literal-call, literal-update, literal-assign, literal-member}
use Rattle.expr_rules.specs.TypeNames.{typeof_known}
use Rattle.expr_operators.proofs.Words.{literal_word, void_word, no_simple}
use Rattle.expr_operators.proofs.unary.type_word.Goals as goal

pub returns-in-Lit-clause-known : goal.returns-in-Lit-clause-known
returns-in-Lit-clause-known c = λ mark. ap (typeof_known mark) (at_expr-Lit _ _ c.in-Lit.is) ∙ literal_word mark _ ∙ sym (ap Some c.type_word_of_literal.ensures)

pub returns-in-Lit-clause-no_name : goal.returns-in-Lit-clause-no_name
returns-in-Lit-clause-no_name c = ap is_read (at_expr-Lit _ _ c.in-Lit.is) ∙ read-lit _

pub returns-in-Fn-clause-known : goal.returns-in-Fn-clause-known
returns-in-Fn-clause-known c = λ mark. ap (typeof_known mark) (at_expr-Fn _ _ c.in-Fn.is)

pub returns-in-Fn-clause-no_name : goal.returns-in-Fn-clause-no_name
returns-in-Fn-clause-no_name c = ap is_read (at_expr-Fn _ _ c.in-Fn.is)

pub returns-in-Array-clause-known : goal.returns-in-Array-clause-known
returns-in-Array-clause-known c = λ mark. ap (typeof_known mark) (at_expr-Array _ _ c.in-Array.is)

pub returns-in-Array-clause-no_name : goal.returns-in-Array-clause-no_name
returns-in-Array-clause-no_name c = ap is_read (at_expr-Array _ _ c.in-Array.is)

pub returns-in-Object-clause-known : goal.returns-in-Object-clause-known
returns-in-Object-clause-known c = λ mark. ap (typeof_known mark) (at_expr-Object _ _ c.in-Object.is)

pub returns-in-Object-clause-no_name : goal.returns-in-Object-clause-no_name
returns-in-Object-clause-no_name c = ap is_read (at_expr-Object _ _ c.in-Object.is)

pub returns-in-Void-clause-known : goal.returns-in-Void-clause-known
returns-in-Void-clause-known c = λ mark. ap (typeof_known mark) (at_expr-Unary _ _ c.in-Unary.is) ∙ void_word mark _ _ _ c.in-Void.is

pub returns-in-Void-clause-no_name : goal.returns-in-Void-clause-no_name
returns-in-Void-clause-no_name c = ap is_read (at_expr-Unary _ _ c.in-Unary.is) ∙ read-unary _ _ _

pub returns-in_default-clause-literal : goal.returns-in_default-clause-literal
returns-in_default-clause-literal c = λ h. ap is_simple_literal (at_expr-Unary _ _ c.in-Unary.is) ∙ no_simple _ (literal-unary _ _ _)

pub returns-in-Call-clause-literal : goal.returns-in-Call-clause-literal
returns-in-Call-clause-literal c = λ h. ap is_simple_literal (at_expr-Call _ _ c.in-Call.is) ∙ no_simple _ (literal-call _ _ _)

pub returns-in-Update-clause-literal : goal.returns-in-Update-clause-literal
returns-in-Update-clause-literal c = λ h. ap is_simple_literal (at_expr-Update _ _ c.in-Update.is) ∙ no_simple _ (literal-update _ _ _ _)

pub returns-in-Assign-clause-literal : goal.returns-in-Assign-clause-literal
returns-in-Assign-clause-literal c = λ h. ap is_simple_literal (at_expr-Assign _ _ c.in-Assign.is) ∙ no_simple _ (literal-assign _ _ _ _)

pub returns-in-Member-clause-literal : goal.returns-in-Member-clause-literal
returns-in-Member-clause-literal c = λ h. ap is_simple_literal (at_expr-Member _ _ c.in-Member.is) ∙ no_simple _ (literal-member c.in-Member.field-0)
