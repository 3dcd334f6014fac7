-- a member is no name
use Rattle.text_match.proofs.Steps.{operand_at}
use Rattle.text_match.proofs.expressions.is_member.Goals as goal

pub returns-in-Member : goal.returns-in-Member
returns-in-Member c = λ h. operand_at c.args.expr.now c.in-Member.field-0 c.in-Member.is
