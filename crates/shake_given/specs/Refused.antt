-- Why what flags give isn't put into a module.
use Rattle.std.specs.Prelude.{ℕ, ◌≡◌, List, [], ◌∷◌, Option, Some, None, string_bytes}
use Rattle.std.specs.declared.alloc.Global.{Global}
use Rattle.std.specs.declared.string.String.{String}
use Rattle.swc_ast.specs.Tree.{Text, Tree}
use Rattle.swc_ast.specs.declared.errors.PassError.{PassError}
use Rattle.swc_ast.specs.declared.errors.PassError.TheVariants as pass
use Rattle.swc_ast.specs.declared.expressions.Expr.{Expr}
use Rattle.swc_ast.specs.declared.names.Mark.{Mark}
use Rattle.swc_text.specs.declared.error.ReadError.TheVariants.{Syntax}
use Rattle.given_rules.specs.Cycles.{Cycle}
use Rattle.given_globals.specs.Globals.{answers_of, told_name}
use Rattle.given_globals.specs.declared.settings.Settings.{Settings}
use Rattle.const_imports.specs.Faults.{Fault, missing_export, missing_default, bare_namespace, re_exported}
use Rattle.const_imports.specs.declared.given.GivenModules.{GivenModules}
use Rattle.const_pass.specs.Replaced.{faults_in}
use Rattle.shake_options.specs.Flags.{FlagText}
use Rattle.shake_given.specs.declared.error.GivenError.{GivenError}
use Rattle.shake_given.specs.declared.error.GivenError.TheVariants.{Unreadable, Cyclic, NoExport, NoDefault, Namespace, ReExported, TooDeep, OutOfMemory}
use Rattle.shake_given.specs.declared.given.Given.{Given}
use Rattle.shake_given.specs.declared.given.GivenNames.{GivenNames}
use Rattle.shake_given.specs.Prepared.{AreSettings, InBetween}
use Rattle.shake_given.specs.Deep.{Nested, IsTooDeep}
use Rattle.shake_given.specs.Reads.{Reads}
use Rattle.shake_given.specs.Refusals.{FlagRefused}

-- the refusal of a pass, in the words of the program
abbrev pub of_pass : PassError → GivenError
of_pass (pass.CyclicGlobals name) = Cyclic name
of_pass (pass.MissingExport «module» export) = NoExport export «module»
of_pass (pass.MissingDefault «module») = NoDefault «module»
of_pass (pass.BareNamespace name) = Namespace name
of_pass (pass.ReExported name) = ReExported name
of_pass (pass.UnreadableValue «module» export at) = Unreadable export (Syntax at)
of_pass pass.OutOfMemory = OutOfMemory

-- what is wrong with imports, as it is told
abbrev pub fault_of : GivenError → Option Fault
fault_of (NoExport name «module») = Some (missing_export (string_bytes «module») (string_bytes name))
fault_of (NoDefault «module») = Some (missing_default (string_bytes «module»))
fault_of (Namespace name) = Some (bare_namespace (string_bytes name))
fault_of (ReExported name) = Some (re_exported (string_bytes name))
fault_of e = None

-- the first of some faults is told
abbrev pub IsFirst : List Fault → GivenError → Type 0
IsFirst [] e = ⊥
IsFirst (f ∷ fs) e = fault_of e ≡ Some f

-- the first fault of the imports of given modules is told
abbrev pub ImportRefused : GivenModules Expr → Tree → GivenError → Type 0
ImportRefused g t e = IsFirst (faults_in g t) e

-- a value that leads back to itself, with the name that is told of it
pub record IsCyclic (g : GivenNames) (mark : Mark) (t : Tree) (name : Text) : Type 0 where
  pub settings : Settings
  pub are : AreSettings g mark settings
  pub number : ℕ
  pub cycle : Cycle (answers_of settings) t number
  pub told : told_name settings number ≡ Some name

-- why what is given for names isn't put; for private clauses
pub data NamesRefused (g : GivenNames) (mark : Mark) (most : ℕ) (t : Tree) : GivenError → Type 0 where
  no_memory_for_names : NamesRefused g mark most t OutOfMemory
  nested : Nested g mark most t → NamesRefused g mark most t TooDeep
  cyclic : {name : String Global} → IsCyclic g mark t (string_bytes name) → NamesRefused g mark most t (Cyclic name)

-- Why what flags give isn't put.
pub data Refused (fs : List FlagText) (mark : Mark) (t : Tree) : GivenError → Type 0 where
  no_memory : Refused fs mark t OutOfMemory
  -- a flag is refused as it is read
  by_flag : {e : GivenError} → FlagRefused fs mark e → Refused fs mark t e
  -- the flags are read, and an import of a given module is wrong
  by_import : {e : GivenError} (g : Given) → Reads mark fs g → ImportRefused g.modules t e → Refused fs mark t e
  -- the imports are replaced, and a value leads back to itself
  by_cycle : {name : String Global} → InBetween fs mark t (λ g constant. IsCyclic g mark constant (string_bytes name)) → Refused fs mark t (Cyclic name)
  too_deep : IsTooDeep fs mark t → Refused fs mark t TooDeep
