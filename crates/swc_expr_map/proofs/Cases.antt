-- Whether a case is `default`.
use Rattle.std.proofs.Common.{◌≡◌, ap}
use Rattle.swc_ast.specs.Statements.{CaseTrees, is_missing}
use Rattle.swc_ast.specs.Views.{case_trees}
use Rattle.swc_ast.proofs.Equations.{case_trees-is}
use Rattle.swc_ast.specs.declared.statements.SwitchCase.{SwitchCase}

pub case_default : (n : SwitchCase) → (case_trees n).is_default ≡ is_missing n.test
case_default n = ap (λ c. let p : CaseTrees = c in p.is_default) (case_trees-is n)
