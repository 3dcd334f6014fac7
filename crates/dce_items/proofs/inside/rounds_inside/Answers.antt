use Rattle.std.proofs.Common.{◌<◌, ◌-◌, ◌∙◌, All, List, ℕ, sym, ap, map, string_bytes, subst, take, drop, arith}
use Rattle.swc_ast.specs.Parts.{list_trees}
use Rattle.swc_ast.specs.Views.{stmt_tree}
use Rattle.swc_utils.specs.Globals.{unresolved}
use Rattle.tree_visit.specs.Nodes.{node_tree}
use Rattle.dce_rules.specs.Uses.{any_eval}
use Rattle.dce_peel.specs.Rounds.{AreLayers}
use Rattle.dce_items.specs.declared.inside.Inside.{Inside}
use Rattle.dce_items.specs.Wrapped.{WrapperAt}
use Rattle.dce_items.proofs.Beside.{described_nodes, laid_inside, none_exported}
use Rattle.dce_items.proofs.Rows.{listed_is}
use Rattle.dce_items.proofs.inside.rounds_inside.Goals as goal

pub returns-clause-layered : goal.returns-clause-layered
returns-clause-layered c =
    let m = c.args.module.now in
    let mark = unresolved c.args.ctx.now in
    let told = c.in_ok-retained.retained in
    let body = c.in-Some.body in
    let ts = list_trees stmt_tree body.now.items in
    let n = c.len-outside.result - 1 in
    let found = c.in_ok-found.found in
    let is = c.in-Some-2.described.items in
    let i : Inside = record { at = c.in-Some.at; layers = c.in_ok-copy.field-0; rounds = found.rounds } in
    laid_inside mark told (map string_bytes c.args.retained.now) _ m i n ts (list_trees node_tree c.in_ok-nodes.nodes.items) is found.layers.items c.in_ok-retained.ensures
    (subst (λ xs. WrapperAt xs i.at ts) c.deref.ensures.value c.in-Some.ensures)
    (omega (arith, c.len-outside.ensures ∙ m.body.ok.0))
    c.in_ok-nodes.ensures
    (described_nodes mark told _ c.in_ok-described.field-0 c.in-Some-2.described c.deref-3.result.now c.in_ok-nodes.nodes.items c.in-Some-2.is c.deref-3.ensures.value c.in_ok-described.ensures.described)
    (subst (λ js. AreLayers js found.rounds found.layers.items) c.deref-5.ensures.value (c.in_ok-found.ensures.layers (omega (arith, c.if-found-eq0.false))))
    (omega (arith, c.if-found-eq0.false))
    (subst (λ (rs : List ℕ). All (λ r. found.rounds < r) rs) (c.part.ensures.front ∙ ap (take n) c.deref-7.ensures.value) (c.all_stay.ensures c.if-not-all_stay.false))
    (sym (ap any_eval (listed_is body)) ∙ sym c.calls_eval.ensures ∙ c.if-calls_eval.false)
    (none_exported body.now.items)
    (c.in_ok-copy.ensures ∙ c.part.ensures.behind ∙ ap (drop n) c.deref-7.ensures.value)
