-- What a pass answers behind its flags, and what is refused.
use Rattle.std.specs.Prelude.{◌≢◌, List, []}
use Rattle.swc_ast.specs.Tree.{Tree}
use Rattle.swc_ast.specs.declared.errors.PassError.TheVariants.{OutOfMemory}
use Rattle.swc_ast.specs.declared.names.Mark.{Mark}
use Rattle.swc_pass.specs.Pass.{PassSpec}
use Rattle.shake_options.specs.Flags.{FlagText}
use Rattle.shake_options.specs.declared.flags.Flag.{Flag}
use Rattle.shake_given.specs.Prepared.{Prepared}
use Rattle.shake_given.specs.declared.error.GivenError.{GivenError}
use Rattle.shake_run.specs.declared.fault.Fault.{Fault}
use Rattle.shake_run.specs.declared.fault.Fault.TheVariants.{Given, Pass}

-- an answer of the pass, on what the flags make of a module
pub record Answers (fs : List FlagText) (mark : Mark) (p : PassSpec) (t v : Tree) : Type 0 where
  pub prepared : Tree
  pub by_flags : Prepared fs mark t prepared
  pub answers : p.answers prepared v

-- without flags memory alone is refused
pub data Refuses (flags : List Flag) : Fault → Type 0 where
  by_flags : {e : GivenError} → flags ≢ [] → Refuses flags (Given e)
  by_pass : Refuses flags (Pass OutOfMemory)
