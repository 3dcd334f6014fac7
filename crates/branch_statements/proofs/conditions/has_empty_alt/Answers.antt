use Rattle.branch_statements.proofs.Tells.{empty_alt}
use Rattle.branch_statements.proofs.conditions.has_empty_alt.Goals as goal

pub returns-in-Some-clause-shape : goal.returns-in-Some-clause-shape
returns-in-Some-clause-shape c = λ h. empty_alt _ _ c.in-Some.alt c.deref.result.now c.in-Some.is c.deref.ensures (c.is_empty.ensures.shape h)
