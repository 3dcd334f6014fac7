use Rattle.std.proofs.Common.{[], ◌∷◌, ◌∙◌, refl, ap, ap₂, subst, map, string_bytes}
use Rattle.swc_ast.specs.Modules.{item_tree}
use Rattle.swc_ast.specs.Parts.{list_trees}
use Rattle.swc_ast.specs.declared.modules.Module.{Module}
use Rattle.swc_utils.specs.Globals.{unresolved}
use Rattle.dce_peel.specs.Rounds.{staying}
use Rattle.dce_layer_proofs.specs.Frames.{own}
use Rattle.dce_items.specs.Described.{IsLayered}
use Rattle.swc_dce.specs.Configured.{told}
use Rattle.swc_dce.proofs.Rounds.{some_rounds}
use Rattle.swc_dce.proofs.shaker.TreeShaker.peel.Goals as goal

pub returns-clause-peeled : goal.returns-clause-peeled
returns-clause-peeled c =
    let left : Module = record { span = c.args.module.span; body = c.in_ok-module.field-0 } in
    some_rounds (told c.args.self.now.unresolved_mark c.args.self.now.config) (unresolved c.ctx.result) c.args.most c.in_ok-found.found.rounds c.args.module left c.in_ok-found.found.layers.items c.ctx.ensures c.if-not-self.false c.in_ok-found.ensures.few c.if-found-eq0.false
    (λ h. subst (λ ts. IsLayered (unresolved c.ctx.result) (map string_bytes ts) c.in_ok-found.found.rounds (own (c.args.module.span ∷ [])) (list_trees item_tree c.args.module.body.items) c.in_ok-found.found.layers.items) c.deref.ensures.value (c.in_ok-found.ensures.layered h))
    refl (c.in_ok-module.ensures ∙ ap₂ (staying c.in_ok-found.found.rounds) (ap (λ v. v.items) c.replace-items.ensures.value) c.deref-2.ensures.value)
