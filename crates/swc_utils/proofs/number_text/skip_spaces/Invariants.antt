use Rattle.std.proofs.Common.{◌≡◌, length}
use Rattle.swc_ast.specs.Operators.{skip_spaces}
use Rattle.swc_utils.proofs.number_text.skip_spaces.Given as goal

abbrev pub invariant-loop-left : goal.invariant-loop-left
invariant-loop-left l = skip_spaces l.left ≡ skip_spaces l.text

abbrev pub decreases-loop-left : goal.decreases-loop-left
decreases-loop-left l = length l.left
