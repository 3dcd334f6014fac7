use Rattle.std.proofs.Common.{rules}
use Rattle.swc_ast.proofs.Equations.{stmt_tree-Block}
use Rattle.branch_loops.proofs.WithinSteps.{boxed}
use Rattle.branch_loops.proofs.within.unstopped.Goals as goal

pub returns : goal.returns
returns c = boxed c.args.s c.push.new.self.items _ c.is_stopper.result c.is_stopper.ensures (search rules) (search rules) (stmt_tree-Block _)
