use Rattle.std.proofs.Common.{◌≡◌, map, length}
use Rattle.swc_ast.specs.Meaning.{has_label}
use Rattle.swc_resolved.proofs.jumps.is_among.Given as goal

abbrev pub invariant-loop-left : goal.invariant-loop-left
invariant-loop-left l = has_label l.text (map (λ t. t.now) l.left) ≡ has_label l.text (map (λ t. t.now) l.labels)

abbrev pub decreases-loop-left : goal.decreases-loop-left
decreases-loop-left l = length l.left
