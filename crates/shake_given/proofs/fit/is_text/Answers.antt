use Rattle.shake_given.proofs.Chains.{other_text}
use Rattle.shake_given.proofs.fit.is_text.Goals as goal

pub returns-in_default : goal.returns-in_default
returns-in_default c = other_text _ c.in_default.not-Lit
