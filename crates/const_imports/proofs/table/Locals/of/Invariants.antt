use Rattle.std.proofs.Common.{◌≡◌, ◌++◌, length}
use Rattle.swc_ast.specs.Tree.{Text}
use Rattle.const_imports.specs.Views.{locals_of, of_text, group_of}
use Rattle.const_imports.proofs.table.Locals.of.Given as goal

abbrev pub invariant-loop-left : goal.invariant-loop-left
invariant-loop-left l = (t : Text) → group_of l.table t ++ of_text t (locals_of l.left) ≡ of_text t (locals_of l.locals)

abbrev pub decreases-loop-left : goal.decreases-loop-left
decreases-loop-left l = length l.left
