use Rattle.std.specs.Vec.Iter.{into_iter_items}
use Rattle.dce_code.proofs.Valued.{Gathered}
use Rattle.dce_code.proofs.values.first_values.Given as goal

abbrev pub invariant-loop-d : goal.invariant-loop-d
invariant-loop-d l = Gathered l.fn.decls.items (into_iter_items l.d-iterator) l.out.items
