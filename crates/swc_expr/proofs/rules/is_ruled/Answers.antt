use Rattle.std.proofs.Common.{sym, ap, ◌∙◌, subst}
use Rattle.swc_ast.proofs.Equations.{expr_tree-Call}
use Rattle.swc_ast.specs.Views.{expr_tree}
use Rattle.swc_expr.specs.Simplifies.{Rests}
use Rattle.swc_expr.proofs.Resting.{call_rests}
use Rattle.swc_expr.proofs.rules.is_ruled.Goals as goal

pub returns-in-Call : goal.returns-in-Call
returns-in-Call c = λ h. subst Rests (sym (ap expr_tree c.in-Call.is ∙ expr_tree-Call _)) (call_rests _ _ _)
