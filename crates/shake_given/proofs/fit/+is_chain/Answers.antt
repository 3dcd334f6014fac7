use Rattle.shake_given.proofs.Chains.{other_chain}
use Rattle.shake_given.proofs.fit.+is_chain.Goals as goal

pub returns-in_default : goal.returns-in_default
returns-in_default t c = other_chain _ c.in_default.not-Member c.in_default.not-Ident
