use Rattle.std.proofs.Common.{◌≡◌, drop}
use Rattle.swc_ast.specs.Parts.{list_trees}
use Rattle.swc_ast.specs.Views.{expr_tree}
use Rattle.swc_utils.specs.Globals.{unresolved}
use Rattle.expr_members.specs.Fronts.{any_folds}
use Rattle.expr_members.proofs.sequences.any_folds.Given as goal

abbrev pub invariant-loop-e : goal.invariant-loop-e
invariant-loop-e l = any_folds (unresolved l.ctx) l.is_callee (list_trees expr_tree (drop l.e-index l.front)) ≡ any_folds (unresolved l.ctx) l.is_callee (list_trees expr_tree l.front)
