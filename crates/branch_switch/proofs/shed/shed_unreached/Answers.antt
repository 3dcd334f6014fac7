use Rattle.std.proofs.Common.{subst}
use Rattle.swc_utils.specs.Globals.{unresolved}
use Rattle.branch_switch.specs.Values.{value_in, Finds}
use Rattle.branch_switch.proofs.Sheds.{around_unreached}
use Rattle.branch_switch.proofs.shed.shed_unreached.Goals as goal

pub returns-then-may_select-clause-sheds : goal.returns-then-may_select-clause-sheds
returns-then-may_select-clause-sheds c =
    let mark = unresolved c.args.ctx.now in
    let v = value_in c.args.value.now in
    let f = subst (λ z. Finds mark v c.args.cases.now.items z) c.in-At.is (subst (λ xs. Finds mark v xs c.in_ok-i.field-0) c.deref.ensures.value c.in_ok-i.ensures) in
    around_unreached mark v c.args.cases.now.items c.in-At.i _ f.0 c.in_ok-around-in-At.ensures.sheds
