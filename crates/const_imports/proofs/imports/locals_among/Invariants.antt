use Rattle.std.proofs.Common.{◌≡◌, ◌++◌, length}
use Rattle.swc_ast.specs.Modules.{item_tree}
use Rattle.swc_ast.specs.Parts.{list_trees}
use Rattle.const_imports.specs.Locals.{locals}
use Rattle.const_imports.specs.Views.{is_given, locals_of}
use Rattle.const_imports.proofs.imports.locals_among.Given as goal

abbrev pub invariant-loop-left : goal.invariant-loop-left
invariant-loop-left g l = locals_of l.out.items ++ locals (is_given l.given) (list_trees item_tree l.left) ≡ locals (is_given l.given) (list_trees item_tree l.items)

abbrev pub decreases-loop-left : goal.decreases-loop-left
decreases-loop-left g l = length l.left
