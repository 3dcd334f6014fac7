use Rattle.std.proofs.Common.{◌≡◌, ◌++◌, length}
use Rattle.swc_ast.specs.Modules.{import_specifier_tree}
use Rattle.swc_ast.specs.Parts.{list_trees}
use Rattle.const_imports.specs.Locals.{specifiers_locals}
use Rattle.const_imports.specs.Views.{locals_of}
use Rattle.const_imports.proofs.imports.add_specifiers.Given as goal

abbrev pub invariant-loop-left : goal.invariant-loop-left
invariant-loop-left l = locals_of l.out.items ++ specifiers_locals l.source (list_trees import_specifier_tree l.left) ≡ locals_of l.initial.out.items ++ specifiers_locals l.source (list_trees import_specifier_tree l.specifiers)

abbrev pub decreases-loop-left : goal.decreases-loop-left
decreases-loop-left l = length l.left
