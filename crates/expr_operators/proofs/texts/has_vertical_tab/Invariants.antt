use Rattle.std.proofs.Common.{◌≡◌, length}
use Rattle.expr_rules.specs.Equality.{no_vertical_tab}
use Rattle.expr_operators.proofs.texts.has_vertical_tab.Given as goal

abbrev pub invariant-loop-left : goal.invariant-loop-left
invariant-loop-left l = no_vertical_tab l.left ≡ no_vertical_tab l.text

abbrev pub decreases-loop-left : goal.decreases-loop-left
decreases-loop-left l = length l.left
