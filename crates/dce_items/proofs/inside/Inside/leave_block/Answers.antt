use Rattle.swc_ast.specs.Parts.{list_trees}
use Rattle.swc_ast.specs.Views.{stmt_tree}
use Rattle.dce_items.proofs.Leaving.{of_block}
use Rattle.dce_items.proofs.inside.Inside.leave_block.Goals as goal

pub returns : goal.returns
returns c = of_block c.args.self.now c.args.n.now.span (list_trees stmt_tree c.args.n.now.stmts.items) (list_trees stmt_tree c.leave_stmts.new.stmts.items) c.in_ok-leave_stmts.ensures
