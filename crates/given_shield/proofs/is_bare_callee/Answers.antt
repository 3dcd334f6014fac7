use Rattle.given_shield.proofs.Forms.{other_callee}
use Rattle.given_shield.proofs.is_bare_callee.Goals as goal

pub returns-in_default : goal.returns-in_default
returns-in_default c = other_callee _ c.in_default.not-Member c.in_default.not-Ident
