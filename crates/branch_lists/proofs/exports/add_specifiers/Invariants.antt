use Rattle.std.proofs.Common.{◌≡◌, ◌++◌, length}
use Rattle.swc_ast.specs.Parts.{list_trees}
use Rattle.swc_ast.specs.Modules.{export_specifier_tree}
use Rattle.branch_lists.specs.Exports.{ids, specified}
use Rattle.branch_lists.proofs.exports.add_specifiers.Given as goal

abbrev pub invariant-loop-left : goal.invariant-loop-left
invariant-loop-left l = ids l.names.items ++ specified (list_trees export_specifier_tree l.left) ≡ ids l.fn.names.items ++ specified (list_trees export_specifier_tree l.specifiers)

abbrev pub decreases-loop-left : goal.decreases-loop-left
decreases-loop-left l = length l.left
