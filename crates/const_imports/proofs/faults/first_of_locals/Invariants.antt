use Rattle.std.proofs.Common.{◌≡◌, length}
use Rattle.const_imports.specs.Faults.{import_faults}
use Rattle.const_imports.specs.Views.{locals_of, has_value, first_of}
use Rattle.const_imports.proofs.faults.first_of_locals.Given as goal

abbrev pub invariant-loop-left : goal.invariant-loop-left
invariant-loop-left g l = first_of (import_faults (has_value l.given) (locals_of l.left)) ≡ first_of (import_faults (has_value l.given) (locals_of l.locals))

abbrev pub decreases-loop-left : goal.decreases-loop-left
decreases-loop-left g l = length l.left
