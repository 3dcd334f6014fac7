use Rattle.std.proofs.Common.{◌≡◌}
use Rattle.std.specs.Vec.Iter.{into_iter_items}
use Rattle.swc_ast.specs.Scope.{joined}
use Rattle.branch_rules.specs.Lists.{staying}
use Rattle.branch_lists.specs.Swept.{trees}
use Rattle.branch_lists.proofs.Onto.{Adding}
use Rattle.branch_lists.proofs.cut.push_staying.Given as goal

abbrev pub invariant-loop-item : goal.invariant-loop-item
invariant-loop-item g l = (joined (trees g.T.StmtLike.item l.out.items) (staying (trees g.T.StmtLike.item (into_iter_items l.item-iterator))) ≡ joined (trees g.T.StmtLike.item l.fn.out.items) (staying (trees g.T.StmtLike.item l.fn.items.items))) × Adding g.T.StmtLike.made l.fn.items.items l.fn.out.items l.out.items (into_iter_items l.item-iterator)
