use Rattle.std.proofs.Common.{◌≡◌, length}
use Rattle.swc_expr_map.specs.Order.{row_cmp}
use Rattle.swc_expr_map.specs.Rows.{row_of}
use Rattle.swc_expr_map.proofs.texts.Texts.compare.Given as goal

abbrev pub invariant-loop-n : goal.invariant-loop-n
invariant-loop-n l = row_cmp (row_of l.left) (row_of l.right) ≡ row_cmp (row_of l.self) (row_of l.other)

abbrev pub decreases-loop-n : goal.decreases-loop-n
decreases-loop-n l = length (row_of l.left)
