use Rattle.std.proofs.Common.{◌≡◌, length}
use Rattle.swc_ast.specs.Expressions.{item_trees}
use Rattle.swc_ast.specs.Views.{expr_tree}
use Rattle.swc_utils.specs.Globals.{unresolved}
use Rattle.swc_utils.specs.Pure.{pure_all}
use Rattle.expr_members.proofs.items.are_pure.Given as goal

abbrev pub invariant-loop-left : goal.invariant-loop-left
invariant-loop-left l = pure_all (unresolved l.ctx) (item_trees expr_tree l.left) ≡ pure_all (unresolved l.ctx) (item_trees expr_tree l.items)

abbrev pub decreases-loop-left : goal.decreases-loop-left
decreases-loop-left l = length l.left
