use Rattle.std.proofs.Common.{subst}
use Rattle.swc_utils.specs.Globals.{unresolved}
use Rattle.branch_switch.specs.Shed.{PassedFront}
use Rattle.branch_switch.specs.Values.{value_in}
use Rattle.branch_switch.proofs.Sheds.{front_unreached}
use Rattle.branch_switch.proofs.shed.shed_front.Goals as goal

pub returns-clause-sheds : goal.returns-clause-sheds
returns-clause-sheds c =
    front_unreached (unresolved c.args.ctx.now) (value_in c.args.value.now) c.args.cases.now.items c.in_ok-count.count _
    (subst (λ xs. PassedFront (unresolved c.args.ctx.now) (value_in c.args.value.now) xs c.in_ok-count.count) c.deref.ensures.value c.in_ok-count.ensures) c.in_ok-shed.ensures.sheds
