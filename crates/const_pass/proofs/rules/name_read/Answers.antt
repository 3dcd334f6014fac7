use Rattle.const_pass.proofs.Forms.{other_name}
use Rattle.const_pass.proofs.rules.name_read.Goals as goal

pub returns-in_default : goal.returns-in_default
returns-in_default c = other_name _ c.in_default.not-Ident
