use Rattle.std.proofs.Common.{[], ◌∷◌}
use Rattle.swc_ast.specs.Tree.{While, node, ε, ◌⊳◌}
use Rattle.swc_ast.specs.Views.{expr_tree}
use Rattle.branch_rules.specs.Within.{while_within}
use Rattle.branch_loops.proofs.WhileSteps.{while_is}
use Rattle.branch_loops.proofs.WithinSteps.{loop_runs}
use Rattle.branch_loops.proofs.within.run_while.Goals as goal

pub returns : goal.returns
returns c = loop_runs _ (λ b. node While (c.args.n.now.span ∷ []) (expr_tree c.args.n.now.test.value ⊳ b ⊳ ε)) (λ w. while_within _ _ _ w) (while_is c.args.n.now) (while_is _) c.in_ok-made.ensures
