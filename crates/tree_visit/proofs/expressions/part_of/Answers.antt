use Rattle.std.proofs.Common.{ap, ◌∙◌}
use Rattle.swc_ast.proofs.Places.{at_expr-Unary, at_expr-Call}
use Rattle.swc_ast.specs.Labels.{is_member_or_name}
use Rattle.swc_ast.specs.Tree.{label_of}
use Rattle.tree_visit.proofs.Parts.{call_no_part, unary_no_part}
use Rattle.tree_visit.proofs.expressions.part_of.Goals as goal

pub returns-in-Unary : goal.returns-in-Unary
returns-in-Unary c = ap (λ t. is_member_or_name (label_of t)) (at_expr-Unary _ _ c.in-Unary.is) ∙ unary_no_part _ _ _

pub returns-in-Call : goal.returns-in-Call
returns-in-Call c = ap (λ t. is_member_or_name (label_of t)) (at_expr-Call _ _ c.in-Call.is) ∙ call_no_part _ _ _
