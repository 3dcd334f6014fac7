use Rattle.std.proofs.Common.{◌≡◌, length}
use Rattle.swc_ast.specs.Modules.{import_specifier_tree}
use Rattle.swc_ast.specs.Parts.{list_trees}
use Rattle.dce_rules.specs.Shakes.{all_go}
use Rattle.dce_code.specs.Knowledge.{shaker}
use Rattle.dce_code.proofs.known.Known.all_go.Given as goal

abbrev pub invariant-loop-left : goal.invariant-loop-left
invariant-loop-left l = all_go (shaker l.self) (list_trees import_specifier_tree l.left) ≡ all_go (shaker l.self) (list_trees import_specifier_tree l.specifiers)

abbrev pub decreases-loop-left : goal.decreases-loop-left
decreases-loop-left l = length l.left
