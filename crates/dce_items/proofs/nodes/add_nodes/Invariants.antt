use Rattle.std.proofs.Common.{◌≡◌, ◌-◌}
use Rattle.swc_ast.specs.Parts.{list_trees}
use Rattle.swc_ast.specs.Scope.{joined}
use Rattle.tree_visit.specs.Nodes.{node_tree}
use Rattle.dce_items.specs.Wrapped.{row}
use Rattle.dce_items.proofs.nodes.add_nodes.Given as goal

abbrev pub invariant-loop-at : goal.invariant-loop-at
invariant-loop-at l = joined (list_trees node_tree l.nodes.items) (row l.list l.at (l.to - l.at)) ≡ joined (list_trees node_tree l.initial.nodes.items) (row l.list l.from (l.to - l.from))
