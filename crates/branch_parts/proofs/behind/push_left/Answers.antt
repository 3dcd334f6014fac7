use Rattle.swc_ast.specs.Parts.{list_trees}
use Rattle.swc_ast.specs.Views.{expr_tree, stmt_tree}
use Rattle.swc_utils.specs.Globals.{unresolved}
use Rattle.branch_parts.proofs.Left.{behind_nothing, behind_some}
use Rattle.branch_parts.proofs.behind.push_left.Goals as goal

pub returns-in-Nothing : goal.returns-in-Nothing
returns-in-Nothing c = behind_nothing (unresolved c.args.ctx.now) (expr_tree c.args.e.now) (expr_tree c.ignore.new.e) (list_trees stmt_tree c.args.out.now.items) c.in_ok-ignore.field-0 c.in-Nothing.is c.in_ok-ignore.ensures

pub returns-in_ok-push_expr-in-Same : goal.returns-in_ok-push_expr-in-Same
returns-in_ok-push_expr-in-Same c = behind_some (unresolved c.args.ctx.now) (expr_tree c.args.e.now) c.ignore.new.e c.take_expr.result (list_trees stmt_tree c.args.out.now.items) _ c.in_ok-ignore.field-0 c.in-Same.is c.in_ok-ignore.ensures c.take_expr.ensures c.in_ok-push_expr-in-Same.ensures
