-- What was taken out, and what is still to be.
use Rattle.std.proofs.Common.{◌≡◌, ◌||◌, None, length}
use Rattle.std.specs.Prelude.{if◌then◌else◌}
use Rattle.swc_ast.specs.Resolved.{declares_text}
use Rattle.swc_ast.specs.Tree.{Text, Name}
use Rattle.swc_resolved.specs.Names.{names}
use Rattle.tree_captures.specs.Captured.{Scopes}
use Rattle.tree_captures.specs.Views.{known_of, captures, restored}
use Rattle.tree_captures.proofs.Tables.{has_outer}
use Rattle.tree_captures.proofs.table.Table.take_out.Given as goal

abbrev pub invariant-loop-left : goal.invariant-loop-left
invariant-loop-left l = ((t : Text) → (has_outer l.outer.items t || declares_text (names l.left) t) ≡ declares_text (names l.names) t) × ((t : Text) → known_of l.self t ≡ (if has_outer l.outer.items t then None else known_of l.initial.self t)) × ((e : Scopes) (x : Name) → restored l.outer.items e x ≡ (if has_outer l.outer.items x.text then captures l.initial.self x else e x))

abbrev pub decreases-loop-left : goal.decreases-loop-left
decreases-loop-left l = length l.left
