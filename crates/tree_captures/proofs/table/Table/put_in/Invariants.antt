use Rattle.std.proofs.Common.{◌≡◌, ◌||◌, is_some, length}
use Rattle.swc_ast.specs.Resolved.{declares_text}
use Rattle.swc_ast.specs.Scope.{has_name}
use Rattle.swc_ast.specs.Tree.{Text, Name}
use Rattle.swc_resolved.specs.Names.{names}
use Rattle.tree_captures.specs.Views.{known_of, binds}
use Rattle.tree_captures.proofs.table.Table.put_in.Given as goal

abbrev pub invariant-loop-left : goal.invariant-loop-left
invariant-loop-left l = ((t : Text) → (is_some (known_of l.self t) || declares_text (names l.left) t) ≡ (is_some (known_of l.initial.self t) || declares_text (names l.names) t)) × ((y : Name) → (binds l.self y || has_name y (names l.left)) ≡ (binds l.initial.self y || has_name y (names l.names)))

abbrev pub decreases-loop-left : goal.decreases-loop-left
decreases-loop-left l = length l.left
