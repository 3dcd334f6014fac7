-- A case of a switch: its test and its statements.
use Rattle.std.proofs.Common.{◌≡◌, [], ◌∷◌, ap}
use Rattle.swc_ast.specs.Tree.{CaseBody, node}
use Rattle.swc_ast.specs.Parts.{tree_or_absent, list_trees}
use Rattle.swc_ast.specs.Statements.{CaseTrees}
use Rattle.swc_ast.specs.Views.{expr_tree, stmt_tree, case_trees}
use Rattle.swc_ast.proofs.Equations.{case_trees-is}
use Rattle.swc_ast.specs.declared.statements.SwitchCase.{SwitchCase}

pub case_test : (n : SwitchCase) → (case_trees n).test ≡ tree_or_absent expr_tree n.test
case_test n = ap (λ c. let p : CaseTrees = c in p.test) (case_trees-is n)

pub case_body : (n : SwitchCase) → (case_trees n).body ≡ node CaseBody (n.span ∷ []) (list_trees stmt_tree n.cons.items)
case_body n = ap (λ c. let p : CaseTrees = c in p.body) (case_trees-is n)
