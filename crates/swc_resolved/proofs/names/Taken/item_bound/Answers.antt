use Rattle.std.proofs.Common.{sym, ◌∙◌}
use Rattle.swc_ast.specs.Marks.{mark_number}
use Rattle.tree_visit.specs.Kinds.{kind_label}
use Rattle.tree_visit.specs.Nodes.{node_tree, children_forest}
use Rattle.swc_resolved.specs.Exports.{is_bound}
use Rattle.swc_resolved.proofs.Specifiers.{item_exports, item_plain}
use Rattle.swc_resolved.proofs.names.Taken.item_bound.Goals as goal

pub returns-then-not-is_export_named : goal.returns-then-not-is_export_named
returns-then-not-is_export_named c = item_plain (is_bound c.args.self.now (mark_number c.args.unresolved_mark)) (node_tree c.args.item) (kind_label c.open-opened.result.kind) c.open-opened.ensures.0 (sym c.is_export_named.ensures ∙ c.if-not-is_export_named.true)

pub returns : goal.returns
returns c = c.specifiers_bound.ensures ∙ item_exports (is_bound c.args.self.now (mark_number c.args.unresolved_mark)) (node_tree c.args.item) (kind_label c.open-opened.result.kind) (children_forest c.open-opened.result.children) c.open-opened.ensures.0 c.open-opened.ensures.1 (sym c.is_export_named.ensures ∙ c.if-not-is_export_named.false)
