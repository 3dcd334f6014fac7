use Rattle.std.proofs.Common.{refl}
use Rattle.dce_items.proofs.Leaving.{ok_then, of_arrow, arrow_same}
use Rattle.dce_items.proofs.inside.Inside.leave_arrow.Goals as goal

pub returns-clause-remains : goal.returns-clause-remains
returns-clause-remains c = ok_then c.leave_body.result c.leave_body.ensures.remains (λ b h k. of_arrow c.args.self.now c.args.n.now _ refl refl (h k))

pub returns-clause-same : goal.returns-clause-same
returns-clause-same c = ok_then c.leave_body.result c.leave_body.ensures.same (λ b h k. arrow_same c.args.n.now _ refl refl (h k))
