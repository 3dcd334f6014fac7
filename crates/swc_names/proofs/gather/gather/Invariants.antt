use Rattle.std.proofs.Common.{◌≡◌, ◌++◌, [], length}
use Rattle.swc_ast.specs.Modules.{item_tree}
use Rattle.swc_ast.specs.Parts.{list_trees}
use Rattle.swc_names.specs.Ids.{idents}
use Rattle.swc_names.specs.Names.{names_among}
use Rattle.swc_names.proofs.gather.gather.Given as goal

abbrev pub invariant-loop-left : goal.invariant-loop-left
invariant-loop-left g l = idents l.names.items ++ names_among l.choice [] (list_trees (λ x. item_tree (g.T.StmtLike.item x)) l.left) ≡ names_among l.choice [] (list_trees (λ x. item_tree (g.T.StmtLike.item x)) l.items)

abbrev pub decreases-loop-left : goal.decreases-loop-left
decreases-loop-left g l = length l.left
