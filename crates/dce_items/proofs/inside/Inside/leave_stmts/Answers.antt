use Rattle.std.proofs.Common.{ap}
use Rattle.dce_items.proofs.Leaving.{stmts_remain}
use Rattle.dce_items.proofs.inside.Inside.leave_stmts.Goals as goal

pub returns : goal.returns
returns c = stmts_remain c.args.self.now c.args.stmts.now.items c.replace-items.result.items c.in_ok-stmts.field-0.items c.deref.result.now (ap (λ v. v.items) c.replace-items.ensures.value) c.deref.ensures.value c.in_ok-stmts.ensures
