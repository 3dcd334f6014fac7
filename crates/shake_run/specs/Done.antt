-- What the program has done where nothing fails.
use Rattle.std.specs.Prelude.{ℕ, ◌≡◌, ◌≢◌, List, Option, Some, IfSome}
use Rattle.std.specs.Io.KnownBytes.{Appends}
use Rattle.swc_ast.specs.Core.{IsCore}
use Rattle.swc_ast.specs.Marks.{mark_number}
use Rattle.swc_ast.specs.Resolved.{IsResolved}
use Rattle.swc_ast.specs.Tree.{Text, Tree}
use Rattle.swc_ast.specs.declared.names.Mark.{Mark}
use Rattle.shake_options.specs.CommandLine.{command_line, retained_in, flags_in}
use Rattle.shake_options.specs.Flags.{FlagText}
use Rattle.shake_options.specs.declared.flags.Flag.{Flag}
use Rattle.shake_options.specs.declared.options.Options.{Options}
use Rattle.shake_options.specs.declared.options.PassName.TheVariants.{Json}
use Rattle.shake_given.specs.Prepared.{SameFlagged}
use Rattle.swc_text.specs.Texts.{IsReadModule, IsPrinted}
use Rattle.swc_text.specs.declared.error.ReadError.{ReadError}
use Rattle.shake_run.specs.Flagged.{Answers, Refuses}
use Rattle.shake_run.specs.Passes.{pass_by}
use Rattle.shake_run.specs.declared.fault.Fault.{Fault}
use Rattle.shake_run.specs.declared.fault.Fault.TheVariants.{Read}

-- A text, the module that it was read as, and the answer of a pass behind its flags: both are resolved and in the core, and, but for
-- `json`, the answer does the same.
pub record Becomes (fs : List FlagText) (mark : Mark) (o : Options) (retained : List Text) (text : Text) (answer : Tree) : Type 0 where
  pub read : Tree
  pub is_read : IsReadModule mark text read
  pub answers : Answers fs mark (pass_by mark o retained) read answer
  pub same : o.pass ≢ Json → SameFlagged fs mark (pass_by mark o retained).loads read answer
  pub resolved : IsResolved (mark_number mark) answer
  pub core : IsCore answer

-- a text that is not read, or that a pass behind its flags refuses
pub data Unanswered (flags : List Flag) : Fault → Type 0 where
  unread : {e : ReadError} → Unanswered flags (Read e)
  refused : {f : Fault} → Refuses flags f → Unanswered flags f

-- What the words of a command line ask for was done: by the bytes that the reader had left, where they are known, and by those that the
-- writer held before and after, where they are known.
pub record Done (args : List Text) (left before after : Option (List ℕ)) : Type 0 where
  pub options : Options
  pub asked : command_line args ≡ Some options
  pub mark : Mark
  pub first_mark : mark_number mark ≡ 1
  -- the text is all that was left to read
  pub text : Text
  pub whole : IfSome left (λ bytes. text ≡ bytes)
  pub answer : Tree
  pub becomes : Becomes (flags_in args) mark options (retained_in args) text answer
  -- a text with `IsPrinted` of the answer was written, and nothing else
  pub printed : Text
  pub is_printed : IsPrinted answer printed
  pub written : Appends before after printed
