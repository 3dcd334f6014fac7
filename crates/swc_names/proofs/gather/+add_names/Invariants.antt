use Rattle.std.proofs.Common.{◌≡◌, ◌≤◌, ◌++◌}
use Rattle.tree_visit.specs.Kinds.{kind_label}
use Rattle.tree_visit.specs.Nodes.{children_forest}
use Rattle.tree_visit.proofs.Caps.{forest_size}
use Rattle.swc_names.specs.Ids.{idents, optional}
use Rattle.swc_names.specs.Names.{opened_names, names_among}
use Rattle.swc_names.proofs.gather.+add_names.Given as goal

abbrev pub decreases-add_names : goal.decreases-add_names
decreases-add_names l = forest_size (children_forest l.opened.children)

abbrev pub invariant-loop-child : goal.invariant-loop-child
invariant-loop-child l = (idents l.names.items ++ names_among l.choice (optional l.waiting) (children_forest l.left) ≡ idents l.fn.names.items ++ opened_names l.choice (kind_label l.opened.kind) (children_forest l.opened.children)) × (forest_size (children_forest l.left) ≤ forest_size (children_forest l.opened.children))

abbrev pub decreases-loop-child : goal.decreases-loop-child
decreases-loop-child l = forest_size (children_forest l.left)
