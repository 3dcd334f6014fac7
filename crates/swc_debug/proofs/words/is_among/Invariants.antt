use Rattle.std.proofs.Common.{◌≡◌, map, length}
use Rattle.swc_ast.specs.Operators.{is_among}
use Rattle.swc_debug.proofs.words.is_among.Given as goal

abbrev pub invariant-loop-left : goal.invariant-loop-left
invariant-loop-left l = is_among l.text (map (λ w. w.now) l.left) ≡ is_among l.text (map (λ w. w.now) l.words)

abbrev pub decreases-loop-left : goal.decreases-loop-left
decreases-loop-left l = length l.left
