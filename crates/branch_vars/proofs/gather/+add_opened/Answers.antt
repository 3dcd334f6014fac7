use Rattle.std.proofs.Common.{◌++◌, ap, ◌∙◌, arith}
use Rattle.tree_visit.specs.Nodes.{children_forest, node_tree}
use Rattle.tree_visit.proofs.Caps.{forest_size}
use Rattle.branch_vars.specs.Names.{names_of}
use Rattle.branch_vars.proofs.Gathered.{opened, goes_on}
use Rattle.branch_vars.proofs.gather.+add_opened.Goals as goal

pub loop-child-preserved : goal.loop-child-preserved
loop-child-preserved t c = (
  goes_on (node_tree c.in-Some.child) (children_forest c.in-Some.rest) (children_forest c.loop-child.left) (names_of c.loop-child.names.items) _ _ c.in-Some.ensures (c.in_ok-add_opened.ensures ∙ ap (λ ys. names_of c.loop-child.names.items ++ ys) (opened (node_tree c.in-Some.child) _ _ c.open.ensures.0 c.open.ensures.1)) c.loop-child.invariant.0,
  omega (arith, ap forest_size c.in-Some.ensures, c.loop-child.invariant.1),
)
