use Rattle.std.proofs.Common.{◌≡◌, ◌++◌}
use Rattle.std.specs.Str.{IsUtf8, chars}
use Rattle.swc_ast.specs.Operators.{units_of_all}
use Rattle.expr_operators.proofs.texts.units_of.Given as goal

abbrev pub invariant-loop-c : goal.invariant-loop-c
invariant-loop-c l = (l.units.items ++ units_of_all (chars l.c-iterator.rest.now) ≡ units_of_all (chars l.text)) × IsUtf8 l.c-iterator.rest.now
