use Rattle.swc_ast.specs.Parts.{list_trees}
use Rattle.swc_ast.specs.Views.{stmt_tree}
use Rattle.dce_items.proofs.Wrapping.{wrapper_at}
use Rattle.dce_items.proofs.wrapper.wrapper_in.Goals as goal

pub returns-in-Some : goal.returns-in-Some
returns-in-Some c = wrapper_at c.args.items.now c.loop-at.at c.index-items-at.result (list_trees stmt_tree c.in-Some.body.now.items) c.loop-at-test.true c.index-items-at.is c.in-Some.ensures
