use Rattle.std.proofs.Common.{sym, ap, ◌∙◌}
use Rattle.swc_ast.proofs.Equations.{expr_tree-Unary, expr_tree-Call}
use Rattle.swc_ast.specs.Views.{expr_tree}
use Rattle.tree_walk.specs.Parts.{part_of_call_is}
use Rattle.tree_walk.proofs.NodeKinds.{unary_no_part, call_no_part, no_member}
use Rattle.tree_walk.proofs.kinds.is_member.Goals as goal

pub returns-in-Unary : goal.returns-in-Unary
returns-in-Unary c = sym (no_member _ (ap part_of_call_is (ap expr_tree c.in-Unary.is ∙ expr_tree-Unary _) ∙ unary_no_part _ _ _))

pub returns-in-Call : goal.returns-in-Call
returns-in-Call c = sym (no_member _ (ap part_of_call_is (ap expr_tree c.in-Call.is ∙ expr_tree-Call _) ∙ call_no_part _ _ _))
