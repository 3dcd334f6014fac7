use Rattle.std.proofs.Common.{◌+◌, ◌*◌}
use Rattle.tree_visit.specs.Nodes.{node_tree, children_forest}
use Rattle.tree_visit.proofs.Caps.{tree_size, forest_size}
use Rattle.carry_reads.specs.Walks.{puts}
use Rattle.carry_reads.proofs.Walking.{Left}
use Rattle.carry_reads.proofs.reader.Reader.+node.Given as goal

abbrev pub decreases-node : goal.decreases-node
decreases-node l = tree_size (node_tree l.n) * 2

abbrev pub decreases-nodes : goal.decreases-nodes
decreases-nodes l = forest_size (children_forest l.children) * 2 + 1

abbrev pub invariant-nodes-loop-child : goal.invariant-nodes-loop-child
invariant-nodes-loop-child l = Left l.self l.place l.initial.tables l.tables (puts l.initial.reads.items) (puts l.reads.items) (children_forest l.left) (children_forest l.children)

abbrev pub decreases-nodes-loop-child : goal.decreases-nodes-loop-child
decreases-nodes-loop-child l = forest_size (children_forest l.left)
