use Rattle.std.proofs.Common.{sym, ap, ◌∙◌}
use Rattle.swc_ast.specs.Marks.{mark_number}
use Rattle.tree_visit.specs.Kinds.{kind_label}
use Rattle.tree_visit.specs.Nodes.{node_tree, children_forest, next_forest}
use Rattle.swc_resolved.specs.Exports.{is_bound}
use Rattle.swc_resolved.proofs.Specifiers.{specifier_refused, specifiers_behind}
use Rattle.swc_resolved.proofs.names.Taken.specifiers_bound.Goals as goal

pub returns-then-not-kind_bound : goal.returns-then-not-kind_bound
returns-then-not-kind_bound c = specifier_refused (is_bound c.args.self.now (mark_number c.args.unresolved_mark)) (node_tree c.in-Some.child) (kind_label c.open-opened.result.kind) (children_forest c.in-Some.rest) (children_forest c.loop-child.left) _ (c.next.ensures ∙ ap next_forest c.in-Some.is) c.open-opened.ensures.0 (sym c.kind_bound.ensures ∙ c.if-not-kind_bound.true) c.loop-child.invariant

pub loop-child-preserved : goal.loop-child-preserved
loop-child-preserved c = specifiers_behind (is_bound c.args.self.now (mark_number c.args.unresolved_mark)) (node_tree c.in-Some.child) (kind_label c.open-opened.result.kind) (children_forest c.in-Some.rest) (children_forest c.loop-child.left) _ (c.next.ensures ∙ ap next_forest c.in-Some.is) c.open-opened.ensures.0 (sym c.kind_bound.ensures ∙ c.if-not-kind_bound.false) c.loop-child.invariant
