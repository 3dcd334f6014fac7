use Rattle.given_globals.proofs.Forms.{other_literal}
use Rattle.given_globals.proofs.lookup.text_of.Goals as goal

pub returns-in_default : goal.returns-in_default
returns-in_default c = other_literal _ c.in_default.not-Lit
