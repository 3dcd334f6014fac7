use Rattle.std.proofs.Common.{◌≡◌, ◌++◌, length}
use Rattle.branch_rules.specs.Lists.{going}
use Rattle.branch_rules.specs.Vars.{all_names_left}
use Rattle.branch_vars.specs.Names.{names_of}
use Rattle.branch_lists.specs.Exports.{among}
use Rattle.branch_lists.specs.Swept.{trees}
use Rattle.branch_lists.proofs.cut.declare_behind.Given as goal

abbrev pub invariant-loop-left : goal.invariant-loop-left
invariant-loop-left g l = names_of l.names.items ++ all_names_left (among l.kept) (going (trees g.T.StmtLike.item l.left)) ≡ all_names_left (among l.kept) (going (trees g.T.StmtLike.item l.behind))

abbrev pub decreases-loop-left : goal.decreases-loop-left
decreases-loop-left g l = length l.left
