use Rattle.std.proofs.Common.{◌≡◌, ◌++◌, length}
use Rattle.branch_lists.specs.Exports.{ids, names_of_declarators}
use Rattle.branch_lists.proofs.exports.add_declarators.Given as goal

abbrev pub invariant-loop-left : goal.invariant-loop-left
invariant-loop-left l = ids l.names.items ++ names_of_declarators l.left ≡ ids l.fn.names.items ++ names_of_declarators l.decls

abbrev pub decreases-loop-left : goal.decreases-loop-left
decreases-loop-left l = length l.left
