use Rattle.std.proofs.Common.{drop}
use Rattle.tree_keys.specs.Keys.{are_keys}
use Rattle.tree_keys.proofs.Seen.{keys, Left}
use Rattle.tree_keys.proofs.keys.are_keys.Given as goal

abbrev pub invariant-loop-prop : goal.invariant-loop-prop
invariant-loop-prop l = Left l.seen (drop l.prop-index l.props) (are_keys (keys l.props))
