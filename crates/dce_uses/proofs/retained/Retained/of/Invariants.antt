use Rattle.std.proofs.Common.{◌≡◌, map, string_bytes, length}
use Rattle.std.specs.Prelude.{◌||◌}
use Rattle.swc_ast.specs.Run.{has_text}
use Rattle.swc_ast.specs.Tree.{Text}
use Rattle.dce_uses.proofs.Retaining.{texts}
use Rattle.dce_uses.proofs.retained.Retained.of.Given as goal

abbrev pub invariant-loop-left : goal.invariant-loop-left
invariant-loop-left l = (t : Text) → (has_text t (texts l.ordered.keys) || has_text t (map string_bytes l.left)) ≡ has_text t (map string_bytes l.texts)

abbrev pub decreases-loop-left : goal.decreases-loop-left
decreases-loop-left l = length l.left
