use Rattle.std.proofs.Common.{◌≡◌, length}
use Rattle.swc_ast.specs.Parts.{list_trees}
use Rattle.swc_ast.specs.Statements.{declarator_tree}
use Rattle.swc_ast.specs.Views.{expr_tree}
use Rattle.swc_ast.specs.declared.VarDeclKind.TheVariants.{Var}
use Rattle.dce_code.specs.Knowledge.{shaker}
use Rattle.dce_code.specs.Values.{all_free}
use Rattle.dce_code.proofs.known.Known.all_free.Given as goal

abbrev pub invariant-loop-left : goal.invariant-loop-left
invariant-loop-left l = all_free (shaker l.self) (list_trees (declarator_tree expr_tree Var) l.left) ≡ all_free (shaker l.self) (list_trees (declarator_tree expr_tree Var) l.decls)

abbrev pub decreases-loop-left : goal.decreases-loop-left
decreases-loop-left l = length l.left
