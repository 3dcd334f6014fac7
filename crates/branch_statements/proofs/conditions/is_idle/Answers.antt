use Rattle.branch_statements.proofs.Tells.{empty_cons}
use Rattle.branch_statements.proofs.conditions.is_idle.Goals as goal

pub returns-in-None : goal.returns-in-None
returns-in-None c = λ h. empty_cons c.args.n.now.cons.value c.deref.result.now c.args.n.now.alt c.in-None.is c.deref.ensures (c.is_empty.ensures.shape h)
