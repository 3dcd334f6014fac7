use Rattle.std.proofs.Common.{rules, refl}
use Rattle.swc_ast.proofs.Equations.{stmt_tree-Empty}
use Rattle.branch_loops.specs.Runs.{stays_round}
use Rattle.branch_loops.proofs.OnceSteps.{once_jump, once_whole}
use Rattle.branch_loops.proofs.once.run_once.Goals as goal

pub returns-then-is_jump : goal.returns-then-is_jump
returns-then-is_jump c = once_jump _ _ _ _ _ (c.is_jump.ensures c.if-is_jump.true) (stmt_tree-Empty _)

pub returns-then-not-has_jump : goal.returns-then-not-has_jump
returns-then-not-has_jump c = once_whole _ c.args.body.now _ _ (search rules) (search rules) c.take_stmt.ensures

pub returns-in_default : goal.returns-in_default
returns-in_default c = stays_round refl
