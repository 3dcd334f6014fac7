use Rattle.std.proofs.Common.{◌≡◌, ◌++◌, take}
use Rattle.given_globals.specs.Rows.{texts, expression_names}
use Rattle.given_globals.proofs.names.push_expressions.Given as goal

abbrev pub invariant-loop-number : goal.invariant-loop-number
invariant-loop-number l = texts l.names.items ≡ texts l.fn.names.items ++ expression_names (take l.number l.exprs)
