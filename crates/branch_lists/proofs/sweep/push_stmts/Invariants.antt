use Rattle.std.proofs.Common.{◌≡◌, []}
use Rattle.std.specs.Vec.Iter.{into_iter_items}
use Rattle.swc_ast.specs.Parts.{list_trees}
use Rattle.swc_ast.specs.Scope.{joined}
use Rattle.swc_ast.specs.Views.{stmt_tree}
use Rattle.branch_lists.specs.Onto.{Onto}
use Rattle.branch_lists.specs.Swept.{trees}
use Rattle.branch_lists.proofs.sweep.push_stmts.Given as goal

abbrev pub invariant-loop-s : goal.invariant-loop-s
invariant-loop-s g l = (joined (trees g.T.StmtLike.item l.out.items) (list_trees stmt_tree (into_iter_items l.s-iterator)) ≡ joined (trees g.T.StmtLike.item l.fn.out.items) (list_trees stmt_tree l.fn.stmts.items)) × Onto g.T.StmtLike.made [] l.fn.out.items l.out.items
