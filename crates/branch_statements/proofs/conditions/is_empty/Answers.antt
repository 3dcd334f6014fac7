use Rattle.branch_statements.proofs.Tells.{empty_shape, not_empty}
use Rattle.branch_statements.proofs.conditions.is_empty.Goals as goal

pub returns-in-Empty-clause-shape : goal.returns-in-Empty-clause-shape
returns-in-Empty-clause-shape c = λ h. empty_shape c.args.s.now _ c.in-Empty.is

pub returns-in_default-clause-answer : goal.returns-in_default-clause-answer
returns-in_default-clause-answer c = not_empty c.args.s.now c.in_default.not-Empty
