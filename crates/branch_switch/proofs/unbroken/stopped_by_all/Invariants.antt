use Rattle.std.proofs.Common.{◌≡◌, length}
use Rattle.swc_ast.specs.Parts.{list_trees}
use Rattle.swc_ast.specs.Views.{stmt_tree}
use Rattle.branch_switch.specs.Kept as keeping
use Rattle.branch_switch.proofs.unbroken.stopped_by_all.Given as goal

abbrev pub invariant-loop-left : goal.invariant-loop-left
invariant-loop-left l = keeping.stopped_by_all l.stopped (list_trees stmt_tree l.left) ≡ keeping.stopped_by_all l.fn.stopped (list_trees stmt_tree l.stmts)

abbrev pub decreases-loop-left : goal.decreases-loop-left
decreases-loop-left l = length l.left
