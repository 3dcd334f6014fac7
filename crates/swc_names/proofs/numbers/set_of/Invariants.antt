use Rattle.std.proofs.Common.{◌≡◌, length}
use Rattle.std.specs.Prelude.{fold}
use Rattle.swc_names.specs.Ids.{ids, idents}
use Rattle.swc_names.specs.Names.{with_name, distinct}
use Rattle.swc_names.proofs.numbers.set_of.Given as goal

abbrev pub invariant-loop-left : goal.invariant-loop-left
invariant-loop-left l = fold with_name (ids l.set.keys) (idents l.left) ≡ distinct (idents l.names)

abbrev pub decreases-loop-left : goal.decreases-loop-left
decreases-loop-left l = length l.left
