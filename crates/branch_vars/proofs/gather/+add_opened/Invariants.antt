use Rattle.std.proofs.Common.{◌≡◌, ◌≤◌, ◌++◌}
use Rattle.swc_ast.specs.Scope.{vars_all}
use Rattle.tree_visit.specs.Kinds.{kind_label}
use Rattle.tree_visit.specs.Nodes.{children_forest}
use Rattle.tree_visit.proofs.Caps.{forest_size}
use Rattle.branch_vars.specs.Names.{names_of, opened_vars}
use Rattle.branch_vars.proofs.gather.+add_opened.Given as goal

abbrev pub decreases-add_opened : goal.decreases-add_opened
decreases-add_opened l = forest_size (children_forest l.opened.children)

abbrev pub invariant-loop-child : goal.invariant-loop-child
invariant-loop-child l = (names_of l.names.items ++ vars_all (children_forest l.left) ≡ names_of l.fn.names.items ++ opened_vars (kind_label l.opened.kind) (children_forest l.opened.children)) × (forest_size (children_forest l.left) ≤ forest_size (children_forest l.opened.children))

abbrev pub decreases-loop-child : goal.decreases-loop-child
decreases-loop-child l = forest_size (children_forest l.left)
