use Rattle.std.proofs.Common.{◌≡◌}
use Rattle.std.specs.Vec.Iter.{into_iter_items}
use Rattle.swc_ast.specs.Parts.{list_trees}
use Rattle.swc_ast.specs.Scope.{joined}
use Rattle.swc_ast.specs.Views.{expr_tree}
use Rattle.swc_utils.specs.Globals.{unresolved}
use Rattle.expr_members.specs.Fronts.{all_folded}
use Rattle.expr_members.proofs.sequences.push_fronts.Given as goal

abbrev pub invariant-loop-e : goal.invariant-loop-e
invariant-loop-e l = joined (list_trees expr_tree l.out.items) (all_folded (unresolved l.ctx) l.is_callee (list_trees expr_tree (into_iter_items l.e-iterator))) ≡ joined (list_trees expr_tree l.fn.out.items) (all_folded (unresolved l.ctx) l.is_callee (list_trees expr_tree l.fn.front.items))
