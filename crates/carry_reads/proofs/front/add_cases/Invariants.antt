use Rattle.swc_ast.specs.Scope.{has_name, case_statements}
use Rattle.carry_rules.specs.Carry.{list_functions}
use Rattle.tree_visit.specs.Nodes.{children_forest}
use Rattle.tree_visit.proofs.Caps.{forest_size}
use Rattle.carry_reads.proofs.Readying.{Adding}
use Rattle.carry_reads.proofs.front.add_cases.Given as goal

abbrev pub invariant-loop-child : goal.invariant-loop-child
invariant-loop-child l = Adding l.vars l.initial.ready l.ready (λ x. has_name x (list_functions (case_statements (children_forest l.left)))) (λ x. has_name x (list_functions (case_statements (children_forest l.children))))

abbrev pub decreases-loop-child : goal.decreases-loop-child
decreases-loop-child l = forest_size (children_forest l.left)
