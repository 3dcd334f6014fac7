use Rattle.std.proofs.Common.{◌≡◌, length}
use Rattle.swc_ast.specs.Operators.{units_before}
use Rattle.expr_operators.proofs.texts.stand_before.Given as goal

abbrev pub invariant-loop-ys : goal.invariant-loop-ys
invariant-loop-ys l = units_before l.xs l.ys ≡ units_before l.first l.second

abbrev pub decreases-loop-ys : goal.decreases-loop-ys
decreases-loop-ys l = length l.ys
