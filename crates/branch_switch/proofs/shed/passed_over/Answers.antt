use Rattle.std.proofs.Common.{refl, rules}
use Rattle.swc_utils.specs.Globals.{unresolved}
use Rattle.branch_rules.specs.Switches.{none_passed}
use Rattle.branch_switch.specs.Values.{value_in}
use Rattle.branch_switch.proofs.Planned.{no_default_more}
use Rattle.branch_switch.proofs.Selected.{passed_more}
use Rattle.branch_switch.proofs.shed.passed_over.Goals as goal

pub loop-i-init : goal.loop-i-init
loop-i-init c = (none_passed, refl)

pub loop-i-preserved : goal.loop-i-preserved
loop-i-preserved c =
    let h = c.in_ok-is_passed.ensures c.if-not-branch.false in (
      passed_more (unresolved c.args.ctx.now) (value_in c.args.value.now) c.args.cases.now c.loop-i.i c.index-cases-i.result (search rules) (search rules) c.loop-i.invariant.0 h.over_passed,
      no_default_more c.args.cases.now c.loop-i.i c.index-cases-i.result (search rules) (search rules) c.loop-i.invariant.1 h.over_named,
    )
