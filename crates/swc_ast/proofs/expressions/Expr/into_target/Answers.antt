use Rattle.std.proofs.Common.{refl}
use Rattle.swc_ast.proofs.Targets.{name_target}
use Rattle.swc_ast.proofs.expressions.Expr.into_target.Goals as goal

pub returns-in-Ident-clause-made : goal.returns-in-Ident-clause-made
returns-in-Ident-clause-made c = (λ h. name_target _ _ c.in-Ident.is, λ h. refl)
