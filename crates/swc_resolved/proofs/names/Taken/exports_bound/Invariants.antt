use Rattle.std.proofs.Common.{◌≡◌}
use Rattle.swc_ast.specs.Marks.{mark_number}
use Rattle.swc_ast.specs.Resolved.{exports_bound}
use Rattle.tree_visit.specs.Nodes.{children_forest}
use Rattle.tree_visit.proofs.Caps.{forest_size}
use Rattle.swc_resolved.specs.Exports.{is_bound}
use Rattle.swc_resolved.proofs.names.Taken.exports_bound.Given as goal

abbrev pub invariant-loop-child : goal.invariant-loop-child
invariant-loop-child l = exports_bound (is_bound l.self (mark_number l.unresolved_mark)) (children_forest l.left) ≡ exports_bound (is_bound l.self (mark_number l.unresolved_mark)) (children_forest l.items)

abbrev pub decreases-loop-child : goal.decreases-loop-child
decreases-loop-child l = forest_size (children_forest l.left)
