use Rattle.std.proofs.Common.{◌≡◌, ◌++◌, length}
use Rattle.swc_ast.specs.Parts.{list_trees}
use Rattle.swc_ast.specs.Scope.{vars_all}
use Rattle.swc_ast.specs.Views.{stmt_tree}
use Rattle.branch_vars.specs.Names.{names_of}
use Rattle.branch_vars.proofs.declarations.declare_all_vars.Given as goal

abbrev pub invariant-loop-left : goal.invariant-loop-left
invariant-loop-left l = names_of l.names.items ++ vars_all (list_trees stmt_tree l.left) ≡ vars_all (list_trees stmt_tree l.stmts)

abbrev pub decreases-loop-left : goal.decreases-loop-left
decreases-loop-left l = length l.left
