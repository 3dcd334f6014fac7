use Rattle.branch_expressions.proofs.Voids.{void_at}
use Rattle.branch_expressions.proofs.rules.is_void.Goals as goal

pub returns-in-Void : goal.returns-in-Void
returns-in-Void c = λ h. void_at _ _ _ _ c.in-Unary.is c.in-Void.is (cc (c.may_have_side_effects.ensures.answer, c.deref.ensures)) h
