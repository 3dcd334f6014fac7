-- The exit status of a failed run.
use Rattle.std.specs.Prelude.{ℕ}
use Rattle.shake_run.specs.declared.fault.Fault.{Fault}
use Rattle.shake_run.specs.declared.fault.Fault.TheVariants.{Arguments}

-- 2 where the arguments aren't understood, else 1
abbrev pub status_of : Fault → ℕ
status_of Arguments = 2
status_of _ = 1
