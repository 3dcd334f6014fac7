use Rattle.std.proofs.Common.{◌≡◌, length}
use Rattle.swc_ast.specs.Parts.{ident_name}
use Rattle.const_imports.specs.Views.{locals_of, value_of, member_in}
use Rattle.const_imports.proofs.table.member_among.Given as goal

abbrev pub invariant-loop-left : goal.invariant-loop-left
invariant-loop-left g l = member_in (value_of l.given) (locals_of l.left) (ident_name l.name) l.key ≡ member_in (value_of l.given) (locals_of l.locals) (ident_name l.name) l.key

abbrev pub decreases-loop-left : goal.decreases-loop-left
decreases-loop-left g l = length l.left
