use Rattle.swc_branch.proofs.Becoming.{within_then, within_left}
use Rattle.swc_branch.proofs.rules.BranchRules.leave_loop.Goals as goal

pub returns-in_ok-finish_for-in-Some : goal.returns-in_ok-finish_for-in-Some
returns-in_ok-finish_for-in-Some c = c.in_ok-finish_for-in-Some.ensures _ c.requires (within_then _ _ _ _ _ _ c.in-Some.turned c.requires c.in_ok-within.ensures c.in-Some.is c.in_ok-turned.ensures.steps)

pub returns-in-None : goal.returns-in-None
returns-in-None c = within_left _ _ _ _ _ _ c.in_ok-within.ensures c.in-None.is c.in_ok-turned.ensures.steps c.in_ok-turned.ensures.finished
