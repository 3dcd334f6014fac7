use Rattle.swc_branch.proofs.Becoming.{turned_at}
use Rattle.swc_branch.proofs.rules.BranchRulesRules.leave_stmt.Goals as goal

pub returns-in-Some : goal.returns-in-Some
returns-in-Some c = turned_at _ _ _ _ c.in-Some.turned c.in-Some.is c.in_ok-turned.ensures.steps
