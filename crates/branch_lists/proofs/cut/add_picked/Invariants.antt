use Rattle.std.proofs.Common.{◌≡◌, ◌++◌, length}
use Rattle.branch_vars.specs.Names.{names_of}
use Rattle.branch_lists.specs.Cuts.{picked}
use Rattle.branch_lists.specs.Exports.{among}
use Rattle.branch_lists.proofs.cut.add_picked.Given as goal

abbrev pub invariant-loop-left : goal.invariant-loop-left
invariant-loop-left l = names_of l.names.items ++ picked (among l.kept) l.is_lexical l.left ≡ names_of l.fn.names.items ++ picked (among l.kept) l.is_lexical l.decls

abbrev pub decreases-loop-left : goal.decreases-loop-left
decreases-loop-left l = length l.left
