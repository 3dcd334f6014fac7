use Rattle.std.proofs.Common.{◌≡◌, length}
use Rattle.tree_captures.specs.Views.{captures, restored}
use Rattle.tree_captures.proofs.table.Table.close.Given as goal

abbrev pub invariant-loop-last : goal.invariant-loop-last
invariant-loop-last l = restored l.left.items (captures l.self) ≡ restored l.initial.left.items (captures l.initial.self)

abbrev pub decreases-loop-last : goal.decreases-loop-last
decreases-loop-last l = length l.left.items
