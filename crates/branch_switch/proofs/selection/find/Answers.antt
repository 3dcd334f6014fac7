use Rattle.std.proofs.Common.{subst, rules, arith}
use Rattle.swc_utils.specs.Globals.{unresolved}
use Rattle.branch_rules.specs.Switches.{none_passed}
use Rattle.branch_switch.specs.Clauses.{clause}
use Rattle.branch_switch.specs.Values.{Meets, value_in}
use Rattle.branch_switch.proofs.Planned.{met_here}
use Rattle.branch_switch.proofs.Selected.{passed_more}
use Rattle.branch_switch.proofs.selection.find.Goals as goal

pub loop-i-init : goal.loop-i-init
loop-i-init c = none_passed

pub returns-in-Met : goal.returns-in-Met
returns-in-Met c = (
  met_here (unresolved c.args.ctx.now) (value_in c.args.value.now) c.args.cases.now c.loop-i.i c.index-cases-i.result (search rules) (search rules) c.loop-i.invariant (subst (Meets (unresolved c.args.ctx.now) (value_in c.args.value.now) (clause c.index-cases-i.result)) c.in-Met.is c.in_ok-met.ensures),
  omega (arith, c.loop-i-test.true),
)

pub loop-i-preserved : goal.loop-i-preserved
loop-i-preserved c = passed_more (unresolved c.args.ctx.now) (value_in c.args.value.now) c.args.cases.now c.loop-i.i c.index-cases-i.result (search rules) (search rules) c.loop-i.invariant (subst (Meets (unresolved c.args.ctx.now) (value_in c.args.value.now) (clause c.index-cases-i.result)) c.in-Passed.is c.in_ok-met.ensures)
