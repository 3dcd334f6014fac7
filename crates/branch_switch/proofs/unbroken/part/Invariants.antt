use Rattle.std.proofs.Common.{◌≡◌, false}
use Rattle.std.specs.Vec.Iter.{into_iter_items}
use Rattle.swc_ast.specs.Parts.{list_trees}
use Rattle.swc_ast.specs.Scope.{joined}
use Rattle.swc_ast.specs.Views.{stmt_tree}
use Rattle.branch_switch.specs.Kept as keeping
use Rattle.branch_switch.proofs.unbroken.part.Given as goal

abbrev pub invariant-loop-s : goal.invariant-loop-s
invariant-loop-s l =
    record {
      staying : joined (list_trees stmt_tree l.kept.items) (keeping.kept l.stopped (list_trees stmt_tree (into_iter_items l.s-iterator))) ≡ joined (list_trees stmt_tree l.fn.kept.items) (keeping.kept false (list_trees stmt_tree l.fn.stmts.items));
      going : joined (list_trees stmt_tree l.gone.items) (keeping.gone l.stopped (list_trees stmt_tree (into_iter_items l.s-iterator))) ≡ joined (list_trees stmt_tree l.fn.gone.items) (keeping.gone false (list_trees stmt_tree l.fn.stmts.items));
    }
