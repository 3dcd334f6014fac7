use Rattle.std.proofs.Common.{sym, ◌∙◌}
use Rattle.dce_code.specs.Knowledge.{shaker}
use Rattle.dce_code.proofs.Idle.{idle_at}
use Rattle.dce_code.proofs.known.Known.is_idle.Goals as goal

pub returns-in-Assign : goal.returns-in-Assign
returns-in-Assign c = λ h. idle_at (shaker c.args.self.now) c.args.n.now c.in-Ident.name c.in-Ident.is c.in-Assign.is (sym c.is_unread.ensures ∙ h)
