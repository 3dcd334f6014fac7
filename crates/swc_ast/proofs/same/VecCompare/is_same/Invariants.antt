use Rattle.std.proofs.Common.{◌≡◌, drop}
use Rattle.swc_ast.specs.Parts.{list_trees}
use Rattle.swc_ast.specs.Same.{same_forest}
use Rattle.swc_ast.proofs.same.VecCompare.is_same.Given as goal

abbrev pub invariant-loop-i : goal.invariant-loop-i
invariant-loop-i g l = same_forest l.spans (list_trees g.T.Compare.tree l.self.items) (list_trees g.T.Compare.tree l.other.items) ≡ same_forest l.spans (list_trees g.T.Compare.tree (drop l.i l.self.items)) (list_trees g.T.Compare.tree (drop l.i l.other.items))
