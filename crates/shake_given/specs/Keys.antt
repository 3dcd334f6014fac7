-- Keys as the command line has them; for private clauses.
use Rattle.std.specs.Prelude.{Option, Some, None}
use Rattle.std.specs.Borrow.{Bor}
use Rattle.swc_ast.specs.Tree.{Text}
use Rattle.shake_given.specs.declared.key.Key.{Key}
use Rattle.shake_given.specs.Refusals.{export_key}

-- a name, and an export of a module
abbrev pub key_of : Option (Bor Text) → Text → Text
key_of None name = name
key_of (Some m) name = export_key m.now name

abbrev pub key_text : Key → Text
key_text k = key_of k.«module» k.name.now
