use Rattle.std.proofs.Common.{◌≡◌, length}
use Rattle.swc_ast.specs.Valid.{all_parts}
use Rattle.swc_debug.proofs.words.all_parts.Given as goal

abbrev pub invariant-loop-left : goal.invariant-loop-left
invariant-loop-left l = all_parts l.left ≡ all_parts l.bytes

abbrev pub decreases-loop-left : goal.decreases-loop-left
decreases-loop-left l = length l.left
