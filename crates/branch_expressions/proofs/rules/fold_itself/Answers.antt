use Rattle.std.proofs.Common.{sym, ap, subst, ◌∙◌}
use Rattle.swc_ast.specs.Expressions.{assign_tree}
use Rattle.swc_ast.specs.Views.{expr_tree}
use Rattle.swc_utils.specs.Globals.{unresolved}
use Rattle.branch_rules.specs.Expressions.{ExpressionStep}
use Rattle.branch_expressions.proofs.Made.{itself_read}
use Rattle.branch_expressions.proofs.rules.fold_itself.Goals as goal

pub returns-then-is_itself : goal.returns-then-is_itself
returns-then-is_itself c = subst (ExpressionStep (unresolved c.args.ctx.now) (assign_tree expr_tree c.args.n.now)) (sym (ap expr_tree (c.take.ensures ∙ c.deref_mut.ensures.value))) (itself_read _ _ _ (c.is_itself.ensures c.if-is_itself.true))
