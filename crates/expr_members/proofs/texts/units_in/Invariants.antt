use Rattle.std.proofs.Common.{◌≡◌, ◌+◌, ◌*◌, ◌≤◌, length, drop}
use Rattle.swc_ast.specs.Operators.{units_of_all}
use Rattle.expr_members.proofs.texts.units_in.Given as goal

abbrev pub invariant-loop-c : goal.invariant-loop-c
invariant-loop-c l = record {
  counted : l.count + length (units_of_all (drop l.c-index l.chars)) ≡ length (units_of_all l.chars);
  few : l.count ≤ 2 * l.c-index;
}
