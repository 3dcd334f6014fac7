use Rattle.std.proofs.Common.{sym, ap, ◌∙◌}
use Rattle.swc_ast.specs.Marks.{mark_number}
use Rattle.tree_visit.specs.Nodes.{node_tree, children_forest, next_forest}
use Rattle.swc_resolved.specs.Exports.{is_bound}
use Rattle.swc_resolved.proofs.Specifiers.{item_refused, items_behind}
use Rattle.swc_resolved.proofs.names.Taken.exports_bound.Goals as goal

pub returns-then-not-item_bound : goal.returns-then-not-item_bound
returns-then-not-item_bound c = item_refused (is_bound c.args.self.now (mark_number c.args.unresolved_mark)) (node_tree c.in-Some.child) (children_forest c.in-Some.rest) (children_forest c.loop-child.left) _ (c.next.ensures ∙ ap next_forest c.in-Some.is) (sym c.item_bound.ensures ∙ c.if-not-item_bound.true) c.loop-child.invariant

pub loop-child-preserved : goal.loop-child-preserved
loop-child-preserved c = items_behind (is_bound c.args.self.now (mark_number c.args.unresolved_mark)) (node_tree c.in-Some.child) (children_forest c.in-Some.rest) (children_forest c.loop-child.left) _ (c.next.ensures ∙ ap next_forest c.in-Some.is) (sym c.item_bound.ensures ∙ c.if-not-item_bound.false) c.loop-child.invariant
