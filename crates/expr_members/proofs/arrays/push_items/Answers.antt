use Rattle.std.proofs.Common.{refl}
use Rattle.swc_ast.specs.Expressions.{item_trees}
use Rattle.swc_ast.specs.Views.{expr_tree}
use Rattle.expr_members.proofs.Turns.{trees_end}
use Rattle.expr_members.proofs.arrays.push_items.Goals as goal

pub returns : goal.returns
returns c = trees_end (item_trees expr_tree) refl _ c.loop-item.item-iterator c.in-None.ensures.steps.0 c.loop-item.invariant
