use Rattle.std.proofs.Common.{length}
use Rattle.swc_ast.specs.Parts.{list_trees}
use Rattle.swc_utils.specs.Globals.{unresolved}
use Rattle.tree_visit.specs.Nodes.{node_tree}
use Rattle.dce_items.proofs.Describing.{Left}
use Rattle.dce_items.proofs.describe.describe_all.Given as goal

abbrev pub invariant-loop-left : goal.invariant-loop-left
invariant-loop-left l = Left (unresolved l.ctx) l.retained l.names l.described.items (list_trees node_tree l.items) (list_trees node_tree l.left)

abbrev pub decreases-loop-left : goal.decreases-loop-left
decreases-loop-left l = length l.left
