use Rattle.std.proofs.Common.{◌≡◌, ◌++◌, length}
use Rattle.swc_ast.specs.Expressions.{param_tree}
use Rattle.swc_ast.specs.Parts.{list_trees}
use Rattle.swc_ast.specs.Scope.{param_names}
use Rattle.swc_ast.specs.Views.{expr_tree}
use Rattle.swc_names.specs.Ids.{ids}
use Rattle.swc_names.proofs.ids.find_pat_ids.Given as goal

abbrev pub invariant-loop-left : goal.invariant-loop-left
invariant-loop-left l = ids l.ids.items ++ param_names (list_trees (param_tree expr_tree) l.left) ≡ param_names (list_trees (param_tree expr_tree) l.params)

abbrev pub decreases-loop-left : goal.decreases-loop-left
decreases-loop-left l = length l.left
