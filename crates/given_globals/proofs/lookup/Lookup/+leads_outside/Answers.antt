use Rattle.given_globals.proofs.Forms.{other_read}
use Rattle.given_globals.proofs.Founds.{leads_other}
use Rattle.given_globals.proofs.lookup.Lookup.+leads_outside.Goals as goal

pub returns-in_default : goal.returns-in_default
returns-in_default t c = leads_other _ _ (other_read _ c.in_default.not-Member c.in_default.not-Ident)
