use Rattle.std.proofs.Common.{◌≡◌, length}
use Rattle.swc_ast.specs.Operators.{trim_end}
use Rattle.swc_utils.proofs.number_text.trim_end.Given as goal

abbrev pub invariant-loop-left : goal.invariant-loop-left
invariant-loop-left l = trim_end l.left ≡ trim_end l.text

abbrev pub decreases-loop-left : goal.decreases-loop-left
decreases-loop-left l = length l.left
