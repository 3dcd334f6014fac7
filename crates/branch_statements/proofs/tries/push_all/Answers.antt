use Rattle.std.proofs.Common.{refl}
use Rattle.swc_ast.specs.Parts.{list_trees}
use Rattle.swc_ast.specs.Views.{stmt_tree}
use Rattle.branch_expressions.proofs.Kept.{trees_end}
use Rattle.branch_statements.proofs.tries.push_all.Goals as goal

pub returns : goal.returns
returns c = trees_end (list_trees stmt_tree) refl _ c.loop-item.item-iterator c.in-None.ensures.steps.0 c.loop-item.invariant
