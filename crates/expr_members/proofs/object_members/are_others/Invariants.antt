use Rattle.std.proofs.Common.{◌≡◌, length}
use Rattle.swc_ast.specs.Parts.{list_trees}
use Rattle.swc_ast.specs.Views.{prop_or_spread_tree}
use Rattle.swc_utils.specs.Globals.{unresolved}
use Rattle.expr_rules.specs.Members.{none_named}
use Rattle.expr_members.proofs.object_members.are_others.Given as goal

abbrev pub invariant-loop-left : goal.invariant-loop-left
invariant-loop-left l = none_named (unresolved l.ctx) l.key (list_trees prop_or_spread_tree l.left) ≡ none_named (unresolved l.ctx) l.key (list_trees prop_or_spread_tree l.props)

abbrev pub decreases-loop-left : goal.decreases-loop-left
decreases-loop-left l = length l.left
