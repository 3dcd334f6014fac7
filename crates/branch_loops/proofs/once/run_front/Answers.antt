use Rattle.std.proofs.Common.{rules, [], ◌∷◌, refl, subst}
use Rattle.swc_ast.proofs.Equations.{stmt_tree-Block}
use Rattle.branch_jumps.specs.Aims.{sought}
use Rattle.branch_loops.specs.Runs.{JumpAt, stays_round}
use Rattle.branch_loops.proofs.OnceSteps.{once_inside}
use Rattle.branch_loops.proofs.once.run_front.Goals as goal

pub returns-in-Some : goal.returns-in-Some
returns-in-Some c = once_inside (sought c.args.labels) c.args.n.now c.in-Some.place c.remove.new.self.items (c.args.n.now.span ∷ []) _ _ (subst (JumpAt (sought c.args.labels) c.in-Some.place) c.deref.ensures.value c.in-Some.ensures) (search rules) (stmt_tree-Block _)

pub returns-in-None : goal.returns-in-None
returns-in-None c = stays_round refl
