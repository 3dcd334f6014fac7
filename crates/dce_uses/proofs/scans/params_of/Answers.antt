use Rattle.std.proofs.Common.{sym, ap, ◌∙◌}
use Rattle.tree_visit.specs.Kinds.{kind_label}
use Rattle.tree_visit.specs.Nodes.{node_tree, children_forest, next_forest}
use Rattle.dce_uses.proofs.Searches.{params_behind}
use Rattle.dce_uses.proofs.scans.params_of.Goals as goal

pub loop-child-preserved : goal.loop-child-preserved
loop-child-preserved c =
    params_behind (node_tree c.in-Some.child) (children_forest c.in-Some.rest) (children_forest c.loop-child.left) (kind_label c.open-opened.result.kind) _
    (c.next.ensures ∙ ap next_forest c.in-Some.is) c.open-opened.ensures.0 (sym c.is_params.ensures ∙ c.if-is_params.false) c.loop-child.invariant
