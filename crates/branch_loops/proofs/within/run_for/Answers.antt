use Rattle.std.proofs.Common.{[], ◌∷◌}
use Rattle.swc_ast.specs.Parts.{tree_or_absent}
use Rattle.swc_ast.specs.Statements.{option_init_tree}
use Rattle.swc_ast.specs.Tree.{For, node, ε, ◌⊳◌}
use Rattle.swc_ast.specs.Views.{expr_tree}
use Rattle.swc_ast.proofs.Equations.{for_tree-is}
use Rattle.branch_rules.specs.Within.{for_within}
use Rattle.branch_loops.proofs.WithinSteps.{loop_runs}
use Rattle.branch_loops.proofs.within.run_for.Goals as goal

pub returns : goal.returns
returns c = loop_runs _ (λ b. node For (c.args.n.now.span ∷ []) (option_init_tree expr_tree c.args.n.now.init ⊳ tree_or_absent expr_tree c.args.n.now.test ⊳ tree_or_absent expr_tree c.args.n.now.update ⊳ b ⊳ ε)) (λ w. for_within _ _ _ _ _ w) (for_tree-is c.args.n.now) (for_tree-is _) c.in_ok-made.ensures
