use Rattle.std.proofs.Common.{arith}
use Rattle.branch_switch.proofs.Loops.{some_trees}
use Rattle.branch_switch.proofs.defaults.is_empty.Goals as goal

pub returns-in-len1-up : goal.returns-in-len1-up
returns-in-len1-up c = some_trees c.args.stmts.now (omega (arith, c.in-len1-up.len_at_least))
