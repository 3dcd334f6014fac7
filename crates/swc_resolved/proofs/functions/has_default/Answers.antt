use Rattle.std.proofs.Common.{sym, ap, ◌∙◌}
use Rattle.tree_visit.specs.Kinds.{kind_label}
use Rattle.tree_visit.specs.Nodes.{node_tree, children_forest, next_forest}
use Rattle.swc_resolved.proofs.Halves.{default_behind}
use Rattle.swc_resolved.proofs.functions.has_default.Goals as goal

pub loop-child-preserved : goal.loop-child-preserved
loop-child-preserved c = default_behind (node_tree c.in-Some.child) (children_forest c.in-Some.rest) (children_forest c.loop-child.left) (children_forest c.open-opened.result.children) (kind_label c.open-opened.result.kind) _ (c.next.ensures ∙ ap next_forest c.in-Some.is) c.open-opened.ensures.0 c.open-opened.ensures.1 (sym c.is_defaulted.ensures ∙ c.if-is_defaulted.false) c.loop-child.invariant
