-- What the program has done with a whole module where nothing fails.
use Rattle.std.specs.Prelude.{ℕ, ◌≡◌, List, [], Option, Some, IfSome}
use Rattle.std.specs.Io.KnownBytes.{Appends}
use Rattle.swc_ast.specs.Tree.{Text}
use Rattle.shake_run.specs.Done.{Done}

-- what the words of a command line ask for was done of a core text, and a text was printed
pub record DoneOfCore (args : List Text) : Type 0 where
  pub core : Text
  pub printed : Text
  pub done : Done args (Some core) (Some []) (Some printed)

-- The text is all that was left to read. Its core text has calls in place of what isn't in the core, and what was written is what was
-- printed, with the kept parts in their places. That the two are so isn't said.
pub data DoneWhole (args : List Text) (left before after : Option (List ℕ)) : Type 0 where
  changed : (text written : Text) → IfSome left (λ bytes. text ≡ bytes) → DoneOfCore args → Appends before after written → DoneWhole args left before after
  -- the text was written as it is
  unchanged : (text : Text) → IfSome left (λ bytes. text ≡ bytes) → Appends before after text → DoneWhole args left before after
