use Rattle.std.proofs.Common.{◌≡◌, map, length}
use Rattle.swc_ast.specs.Parts.{list_trees}
use Rattle.swc_ast.specs.Expressions.{quasi_text}
use Rattle.swc_ast.specs.Views.{expr_tree}
use Rattle.swc_utils.specs.Known.{some_filled}
use Rattle.swc_utils.proofs.values.is_some_filled.Given as goal

abbrev pub invariant-loop-texts : goal.invariant-loop-texts
invariant-loop-texts l = some_filled (map quasi_text l.texts) (list_trees expr_tree l.left) ≡ some_filled (map quasi_text l.quasis) (list_trees expr_tree l.exprs)

abbrev pub decreases-loop-texts : goal.decreases-loop-texts
decreases-loop-texts l = length l.texts
