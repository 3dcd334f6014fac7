use Rattle.std.proofs.Common.{sym, ◌∙◌, rules, arith}
use Rattle.branch_switch.proofs.Sheds.{ends_at, ends_behind}
use Rattle.branch_switch.proofs.shed.reached.Goals as goal

pub returns-then-ends-clause-ends : goal.returns-then-ends-clause-ends
returns-then-ends-clause-ends c = ends_at c.args.cases.now c.loop-i.i c.index-cases-i.result (search rules) (search rules) (sym c.ends.ensures ∙ c.if-ends.true)

pub returns-clause-ends : goal.returns-clause-ends
returns-clause-ends c = ends_behind c.args.cases.now _ (omega arith)
