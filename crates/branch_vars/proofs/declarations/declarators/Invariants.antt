use Rattle.std.proofs.Common.{◌≡◌, [], length}
use Rattle.swc_ast.specs.Parts.{list_trees}
use Rattle.swc_ast.specs.Scope.{joined}
use Rattle.swc_ast.specs.Statements.{declarator_tree}
use Rattle.swc_ast.specs.Views.{expr_tree}
use Rattle.swc_ast.specs.declared.VarDeclKind.TheVariants.{Var}
use Rattle.branch_rules.specs.Vars.{each_once}
use Rattle.branch_vars.specs.Names.{names_of, unset}
use Rattle.branch_vars.proofs.Once.{to_declare}
use Rattle.branch_vars.proofs.declarations.declarators.Given as goal

abbrev pub invariant-loop-left : goal.invariant-loop-left
invariant-loop-left l = joined (list_trees (declarator_tree expr_tree Var) l.decls.items) (to_declare l.seen.keys (names_of l.left)) ≡ unset (each_once [] (names_of l.names))

abbrev pub decreases-loop-left : goal.decreases-loop-left
decreases-loop-left l = length l.left
