use Rattle.std.proofs.Common.{[], length}
use Rattle.std.specs.Vec.Iter.{into_iter_items}
use Rattle.swc_ast.specs.Scope.{joined}
use Rattle.swc_ast.specs.Tree.{Forest}
use Rattle.branch_rules.specs.Lists.{Cut}
use Rattle.branch_lists.specs.Exports.{among}
use Rattle.branch_lists.specs.Swept.{trees}
use Rattle.branch_lists.proofs.Onto.{Adding}
use Rattle.branch_lists.proofs.cut.cut.Given as goal

abbrev pub invariant-loop-item : goal.invariant-loop-item
invariant-loop-item g l = ((us : Forest) → Cut (among l.kept) (trees g.T.StmtLike.item (into_iter_items l.rest)) us → Cut (among l.kept) (trees g.T.StmtLike.item l.fn.items.items) (joined (trees g.T.StmtLike.item l.out.items) us)) × Adding g.T.StmtLike.made l.fn.items.items [] l.out.items (into_iter_items l.rest)

abbrev pub decreases-loop-item : goal.decreases-loop-item
decreases-loop-item g l = length (into_iter_items l.rest)
