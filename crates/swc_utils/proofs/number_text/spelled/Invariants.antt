use Rattle.std.proofs.Common.{◌≡◌, ◌≤◌, drop}
use Rattle.swc_ast.specs.Operators.{greatest, digits_value}
use Rattle.swc_utils.specs.Digits.{capped}
use Rattle.swc_utils.proofs.number_text.spelled.Given as goal

abbrev pub invariant-loop-c : goal.invariant-loop-c
invariant-loop-c l = (capped (digits_value l.number (drop l.c-index l.digits)) ≡ capped (digits_value 0 l.digits)) × (l.number ≤ greatest)
