use Rattle.std.proofs.Common.{[], ◌∷◌, ◌∙◌, sym, ap, map, string_bytes}
use Rattle.swc_ast.specs.Modules.{item_tree}
use Rattle.swc_ast.specs.Parts.{list_trees}
use Rattle.tree_visit.specs.Nodes.{node_tree}
use Rattle.dce_items.proofs.Laying.{laid_from}
use Rattle.dce_items.proofs.rounds.rounds_of.Goals as goal

pub returns-clause-layered : goal.returns-clause-layered
returns-clause-layered c some =
    let m = c.args.module.now in
    laid_from _ c.in_ok-retained.retained (map string_bytes c.args.retained.now) _ (m.span ∷ []) (list_trees item_tree m.body.items) (list_trees node_tree c.deref-2.result.now) c.in_ok-described.field-0 c.in-Some.described c.deref-4.result.now c.in_ok-layers_of.field-0.rounds c.in_ok-layers_of.field-0.layers.items c.in_ok-retained.ensures (sym c.in_ok-nodes.ensures ∙ sym (ap (list_trees node_tree) c.deref-2.ensures.value)) c.in-Some.is
    c.in_ok-described.ensures.described c.deref-4.ensures.value c.in_ok-layers_of.ensures.layers some
