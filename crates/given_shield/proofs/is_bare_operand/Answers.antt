use Rattle.given_shield.proofs.Forms.{other_operand}
use Rattle.given_shield.proofs.is_bare_operand.Goals as goal

pub returns-in_default : goal.returns-in_default
returns-in_default c = other_operand _ c.in_default.not-Ident
