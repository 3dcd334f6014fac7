-- What a pass behind its flags refuses: neither is it a fault of the arguments, nor one of the output, nor an invalid tree.
use Rattle.std.proofs.Common.{◌≡◌, ◌≢◌, List, subst, sym}
use Rattle.swc_ast.specs.declared.errors.PassError.{PassError}
use Rattle.swc_ast.specs.declared.errors.PassError.TheVariants.{OutOfMemory}
use Rattle.swc_text.specs.declared.error.PrintError.TheVariants.{Invalid}
use Rattle.shake_options.specs.declared.flags.Flag.{Flag}
use Rattle.shake_run.specs.Done.{Unanswered, unread, refused}
use Rattle.shake_run.specs.Flagged.{Refuses, by_flags, by_pass}
use Rattle.shake_run.specs.declared.fault.Fault.{Fault}
use Rattle.shake_run.specs.declared.fault.Fault.TheVariants.{Arguments, Output, Print, Pass}

-- a pass that is refused memory
pub memory_refused : (flags : List Flag) (error : PassError) → error ≡ OutOfMemory → Refuses flags (Pass error)
memory_refused flags error e = subst (λ x. Refuses flags (Pass x)) (sym e) by_pass

refuses_no_arguments : (flags : List Flag) (fault : Fault) → Refuses flags fault → fault ≢ Arguments
refuses_no_arguments flags fault (by_flags n) e = cc
refuses_no_arguments flags fault by_pass e = cc

refuses_no_output : (flags : List Flag) (fault : Fault) → Refuses flags fault → fault ≢ Output
refuses_no_output flags fault (by_flags n) e = cc
refuses_no_output flags fault by_pass e = cc

refuses_no_print : (flags : List Flag) (fault : Fault) → Refuses flags fault → fault ≢ Print Invalid
refuses_no_print flags fault (by_flags n) e = cc
refuses_no_print flags fault by_pass e = cc

-- the same of a text without an answer

pub no_arguments : (flags : List Flag) (fault : Fault) → Unanswered flags fault → fault ≢ Arguments
no_arguments flags fault unread e = cc
no_arguments flags fault (refused r) e = refuses_no_arguments flags fault r e

pub no_output : (flags : List Flag) (fault : Fault) → Unanswered flags fault → fault ≢ Output
no_output flags fault unread e = cc
no_output flags fault (refused r) e = refuses_no_output flags fault r e

pub no_print : (flags : List Flag) (fault : Fault) → Unanswered flags fault → fault ≢ Print Invalid
no_print flags fault unread e = cc
no_print flags fault (refused r) e = refuses_no_print flags fault r e
