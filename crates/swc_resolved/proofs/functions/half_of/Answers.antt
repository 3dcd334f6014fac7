use Rattle.std.proofs.Common.{sym, ap, ◌∙◌}
use Rattle.tree_visit.specs.Kinds.{kind_label}
use Rattle.tree_visit.specs.Nodes.{node_tree, children_forest, next_forest}
use Rattle.swc_resolved.proofs.Halves.{half_here, half_behind}
use Rattle.swc_resolved.proofs.functions.half_of.Goals as goal

pub returns-then-is_half : goal.returns-then-is_half
returns-then-is_half c = half_here c.args.half (node_tree c.in-Some.child) (children_forest c.in-Some.rest) (children_forest c.loop-child.left) (children_forest c.open-opened.result.children) (kind_label c.open-opened.result.kind) _ (c.next.ensures ∙ ap next_forest c.in-Some.is) c.open-opened.ensures.0 c.open-opened.ensures.1 (sym c.is_half.ensures ∙ c.if-is_half.true) c.loop-child.invariant

pub loop-child-preserved : goal.loop-child-preserved
loop-child-preserved c = half_behind c.args.half (node_tree c.in-Some.child) (children_forest c.in-Some.rest) (children_forest c.loop-child.left) (kind_label c.open-opened.result.kind) _ (c.next.ensures ∙ ap next_forest c.in-Some.is) c.open-opened.ensures.0 (sym c.is_half.ensures ∙ c.if-is_half.false) c.loop-child.invariant
