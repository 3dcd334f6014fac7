use Rattle.branch_expressions.proofs.Kept.{not_not}
use Rattle.branch_expressions.proofs.objects.is_pure_literal.Goals as goal

pub returns-then-is_literal-clause-idle : goal.returns-then-is_literal-clause-idle
returns-then-is_literal-clause-idle c = λ h. not_not _ _ c.may_have_side_effects.ensures.answer h
