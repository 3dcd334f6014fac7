use Rattle.std.proofs.Common.{◌≡◌, ◌++◌, length}
use Rattle.swc_names.specs.Ids.{ids, idents}
use Rattle.swc_names.proofs.ids.to_ids.Given as goal

abbrev pub invariant-loop-left : goal.invariant-loop-left
invariant-loop-left l = ids l.ids.items ++ idents l.left ≡ idents l.names

abbrev pub decreases-loop-left : goal.decreases-loop-left
decreases-loop-left l = length l.left
