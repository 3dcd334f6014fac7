use Rattle.std.proofs.Common.{◌≡◌}
use Rattle.std.specs.Vec.Iter.{into_iter_items}
use Rattle.swc_ast.specs.Parts.{list_trees}
use Rattle.swc_ast.specs.Scope.{joined}
use Rattle.swc_ast.specs.Views.{stmt_tree}
use Rattle.branch_statements.proofs.tries.push_all.Given as goal

abbrev pub invariant-loop-item : goal.invariant-loop-item
invariant-loop-item l = joined (list_trees stmt_tree l.out.items) (list_trees stmt_tree (into_iter_items l.item-iterator)) ≡ joined (list_trees stmt_tree l.fn.out.items) (list_trees stmt_tree l.fn.items.items)
