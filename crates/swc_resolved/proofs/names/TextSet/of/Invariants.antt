use Rattle.std.proofs.Common.{◌≡◌, length}
use Rattle.std.specs.Prelude.{◌||◌}
use Rattle.swc_ast.specs.Resolved.{declares_text}
use Rattle.swc_ast.specs.Tree.{Text}
use Rattle.swc_resolved.specs.Names.{names, has_text}
use Rattle.swc_resolved.proofs.names.TextSet.of.Given as goal

abbrev pub invariant-loop-left : goal.invariant-loop-left
invariant-loop-left l = (t : Text) → (has_text l.set t || declares_text (names l.left) t) ≡ declares_text (names l.names) t

abbrev pub decreases-loop-left : goal.decreases-loop-left
decreases-loop-left l = length l.left
