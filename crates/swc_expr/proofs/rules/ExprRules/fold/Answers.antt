use Rattle.std.proofs.Common.{rules, sym, ap, ◌∙◌, subst}
use Rattle.swc_ast.proofs.Equations.{expr_tree-Call}
use Rattle.swc_ast.specs.Views.{expr_tree}
use Rattle.swc_expr.specs.Simplifies.{Rests}
use Rattle.swc_expr.proofs.Folded.{binary_rests, condition_rests, array_replaced, object_replaced}
use Rattle.swc_expr.proofs.Resting.{call_rests}
use Rattle.swc_expr.proofs.rules.ExprRules.fold.Goals as goal

pub returns-in-Bin-clause-finished : goal.returns-in-Bin-clause-finished
returns-in-Bin-clause-finished c = binary_rests _ _ c.fold_binary.new.n (search rules) c.fold_binary.ensures.finished

pub returns-in-Cond-clause-finished : goal.returns-in-Cond-clause-finished
returns-in-Cond-clause-finished c = condition_rests _ _ c.fold_condition.new.n (search rules) c.fold_condition.ensures.finished

pub returns-in_ok-spread_items-in-Array-clause-steps : goal.returns-in_ok-spread_items-in-Array-clause-steps
returns-in_ok-spread_items-in-Array-clause-steps c = array_replaced _ _ _ c.in-Array.n _ c.spread_items.new.n _ c.in-Array.is c.in-Array.n-is (search rules) (c.in_ok-spread_items-in-Array.ensures.steps _)

pub returns-in_ok-spread_properties-in-Object-clause-steps : goal.returns-in_ok-spread_properties-in-Object-clause-steps
returns-in_ok-spread_properties-in-Object-clause-steps c = object_replaced _ _ _ c.in-Object.n _ c.spread_properties.new.n _ c.in-Object.is c.in-Object.n-is (search rules) (c.in_ok-spread_properties-in-Object.ensures.steps _)

pub returns-in-Call-clause-finished : goal.returns-in-Call-clause-finished
returns-in-Call-clause-finished c = λ h. subst Rests (sym (ap expr_tree c.in-Call.is ∙ expr_tree-Call _)) (call_rests _ _ _)
