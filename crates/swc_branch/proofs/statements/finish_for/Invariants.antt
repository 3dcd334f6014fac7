use Rattle.std.proofs.Common.{◌≡◌, false}
use Rattle.swc_ast.specs.Tree.{Tree, label_of}
use Rattle.swc_ast.specs.Views.{stmt_tree}
use Rattle.swc_ast.specs.Weight.{is_list}
use Rattle.swc_utils.specs.Globals.{unresolved}
use Rattle.branch_rules.specs.Removes.{Removes}
use Rattle.swc_branch.proofs.statements.finish_for.Given as goal

abbrev pub invariant-loop : goal.invariant-loop
invariant-loop l = (t : Tree) → is_list (label_of t) ≡ false → Removes (unresolved l.ctx) t (stmt_tree l.initial.s) → Removes (unresolved l.ctx) t (stmt_tree l.s)
