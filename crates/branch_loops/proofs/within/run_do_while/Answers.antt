use Rattle.std.proofs.Common.{[], ◌∷◌}
use Rattle.swc_ast.specs.Tree.{DoWhile, node, ε, ◌⊳◌}
use Rattle.swc_ast.specs.Views.{expr_tree}
use Rattle.branch_rules.specs.Within.{do_within}
use Rattle.branch_loops.proofs.OnceSteps.{do_is}
use Rattle.branch_loops.proofs.WithinSteps.{loop_runs}
use Rattle.branch_loops.proofs.within.run_do_while.Goals as goal

pub returns : goal.returns
returns c = loop_runs _ (λ b. node DoWhile (c.args.n.now.span ∷ []) (b ⊳ expr_tree c.args.n.now.test.value ⊳ ε)) (λ w. do_within _ _ _ w) (do_is c.args.n.now) (do_is _) c.in_ok-made.ensures
