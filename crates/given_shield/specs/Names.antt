-- The names for which something is given.
use Rattle.std.specs.Prelude.{ℕ, Option, Some, None}
use Rattle.swc_ast.specs.Marks.{mark_number}
use Rattle.swc_ast.specs.declared.names.Mark.{Mark}

-- the mark of names that no scope binds, beside the empty context
abbrev pub mark_of : Option Mark → ℕ
mark_of None = 0
mark_of (Some m) = mark_number m
