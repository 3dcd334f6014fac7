use Rattle.std.proofs.Common.{◌≡◌, ◌++◌, map, string_bytes}
use Rattle.given_globals.specs.Rows.{texts}
use Rattle.given_globals.proofs.names.push_globals.Given as goal

abbrev pub invariant-loop-name : goal.invariant-loop-name
invariant-loop-name l = texts l.names.items ≡ texts l.fn.names.items ++ map (λ k. string_bytes k.now) l.yielded
