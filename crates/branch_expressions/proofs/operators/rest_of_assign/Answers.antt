use Rattle.branch_expressions.proofs.Made.{itself_goes}
use Rattle.branch_expressions.proofs.operators.rest_of_assign.Goals as goal

pub returns-then-is_itself : goal.returns-then-is_itself
returns-then-is_itself c = itself_goes _ _ _ (c.is_itself.ensures c.if-is_itself.true)
