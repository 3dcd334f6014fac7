use Rattle.std.proofs.Common.{sym, ap, ◌∙◌}
use Rattle.std.proofs.lemmas.Bool.{false≢true}
use Rattle.swc_ast.proofs.Equations.{expr_tree-Unary, expr_tree-Call}
use Rattle.swc_ast.specs.Views.{expr_tree}
use Rattle.tree_walk.specs.Parts.{name_tree_is}
use Rattle.tree_walk.proofs.NodeKinds.{unary_no_name, call_no_name}
use Rattle.tree_walk.proofs.kinds.is_name.Goals as goal

pub returns-in-Unary : goal.returns-in-Unary
returns-in-Unary c = record { named = sym (ap name_tree_is (ap expr_tree c.in-Unary.is ∙ expr_tree-Unary _) ∙ unary_no_name _ _ _); shallow = λ h. absurd (false≢true h) }

pub returns-in-Call : goal.returns-in-Call
returns-in-Call c = record { named = sym (ap name_tree_is (ap expr_tree c.in-Call.is ∙ expr_tree-Call _) ∙ call_no_name _ _ _); shallow = λ h. absurd (false≢true h) }
