use Rattle.std.proofs.Common.{◌≡◌, length}
use Rattle.swc_ast.specs.Parts.{ident_name}
use Rattle.const_imports.specs.Locals.{role_in}
use Rattle.const_imports.specs.Views.{locals_of}
use Rattle.const_imports.proofs.table.role_among.Given as goal

abbrev pub invariant-loop-left : goal.invariant-loop-left
invariant-loop-left l = role_in (locals_of l.left) (ident_name l.name) ≡ role_in (locals_of l.locals) (ident_name l.name)

abbrev pub decreases-loop-left : goal.decreases-loop-left
decreases-loop-left l = length l.left
