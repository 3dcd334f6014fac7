use Rattle.branch_switch.proofs.Typed.{fixed_literal}
use Rattle.branch_switch.proofs.values.is_fixed.Goals as goal

pub returns-in-Lit : goal.returns-in-Lit
returns-in-Lit c = λ h. fixed_literal c.args.e.now _ c.in-Lit.is
