use Rattle.std.proofs.Common.{sym, ◌∙◌, rules, arith}
use Rattle.branch_switch.proofs.Planned.{default_here, no_default_more}
use Rattle.branch_switch.proofs.selection.find_default.Goals as goal

pub returns-then-is_default : goal.returns-then-is_default
returns-then-is_default c = λ mark v h. (default_here mark v c.args.cases.now c.loop-i.i c.index-cases-i.result (search rules) (search rules) c.loop-i.invariant (sym c.is_default.ensures ∙ c.if-is_default.true) h, omega (arith, c.loop-i-test.true))

pub loop-i-preserved : goal.loop-i-preserved
loop-i-preserved c = no_default_more c.args.cases.now c.loop-i.i c.index-cases-i.result (search rules) (search rules) c.loop-i.invariant (sym c.is_default.ensures ∙ c.if-is_default.false)
