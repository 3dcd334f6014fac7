use Rattle.std.proofs.Common.{ap, ◌∙◌}
use Rattle.swc_ast.proofs.Places.{at_expr-Unary, at_expr-Call}
use Rattle.carry_parts.specs.Carries.{is_read_tree}
use Rattle.carry_parts.proofs.Parts.{call_no_read, unary_no_read}
use Rattle.carry_parts.proofs.name.name_of.Goals as goal

pub returns-in-Unary-clause-other : goal.returns-in-Unary-clause-other
returns-in-Unary-clause-other c = λ e. ap is_read_tree (at_expr-Unary _ _ c.in-Unary.is) ∙ unary_no_read _ _ _

pub returns-in-Call-clause-other : goal.returns-in-Call-clause-other
returns-in-Call-clause-other c = λ e. ap is_read_tree (at_expr-Call _ _ c.in-Call.is) ∙ call_no_read _ _ _
