use Rattle.const_pass.proofs.Forms.{other_text}
use Rattle.const_pass.proofs.rules.text_read.Goals as goal

pub returns-in_default : goal.returns-in_default
returns-in_default c = other_text _ c.in_default.not-Lit
