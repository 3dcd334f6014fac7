use Rattle.std.proofs.Common.{ap, sym, ◌∙◌}
use Rattle.swc_ast.specs.Views.{expr_tree}
use Rattle.branch_rules.specs.Expressions.{is_literal_leaf}
use Rattle.branch_expressions.proofs.Voids.{always_void_at}
use Rattle.branch_expressions.proofs.rules.is_always_void.Goals as goal

pub returns-in-Void : goal.returns-in-Void
returns-in-Void c = λ h. always_void_at _ _ c.in-Unary.n c.in-Unary.is c.in-Void.is (sym (ap (λ e. is_literal_leaf (expr_tree e)) c.deref.ensures) ∙ c.is_literal.ensures h)
