use Rattle.std.proofs.Common.{◌≡◌, length}
use Rattle.swc_ast.specs.Modules.{item_tree}
use Rattle.swc_ast.specs.Parts.{list_trees}
use Rattle.swc_ast.specs.Scope.{joined}
use Rattle.swc_pass.specs.Constants.{Constants, without_given}
use Rattle.const_imports.specs.Views.{is_given}
use Rattle.const_imports.proofs.unload.unloaded.Given as goal

abbrev pub invariant-loop-left : goal.invariant-loop-left
invariant-loop-left g l = (k : Constants) → k.is_given ≡ is_given l.given → joined (list_trees item_tree l.body.items) (without_given k (list_trees item_tree l.left)) ≡ without_given k (list_trees item_tree l.module.body.items)

abbrev pub decreases-loop-left : goal.decreases-loop-left
decreases-loop-left g l = length l.left
