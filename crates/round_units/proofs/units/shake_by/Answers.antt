use Rattle.std.proofs.Common.{◌≡◌, true, [], ◌∷◌, refl, sym, subst}
use Rattle.swc_ast.specs.Tree.{Module, node}
use Rattle.tree_walk.specs.Walks.{shut}
use Rattle.tree_walk.proofs.ModuleArms.{items_then}
use Rattle.dce_rules.specs.Shakes.{is_shut}
use Rattle.dce_code.specs.Knowledge.{shaker}
use Rattle.dce_code.specs.Lists.{trees}
use Rattle.round_units.specs.declared.unit.Unit.{Unit}
use Rattle.round_units.specs.Rests.{items_in}
use Rattle.round_units.proofs.Lists.{each_item, items_shaken, known_kept, said_kept, mapped}
use Rattle.round_units.proofs.units.shake_by.Goals as goal

pub returns-then-begins_with_asm-clause-shaken : goal.returns-then-begins_with_asm-clause-shaken
returns-then-begins_with_asm-clause-shaken c = λ s.
    let us = c.args.items.now.items in
    shut (subst (λ ts. is_shut (node Module (s ∷ []) ts) ≡ true) (sym (mapped us)) (subst (λ xs. is_shut (node Module (s ∷ []) (trees (λ (u : Unit). u.item) xs)) ≡ true) c.deref.ensures.value (c.if-begins_with_asm.ensures refl Module refl (s ∷ []))))

pub returns-clause-shaken : goal.returns-clause-shaken
returns-clause-shaken c = λ s.
    let us = c.shake_units.new.items.items in let vs = c.drop_items-left.new.items.items in
    items_then _ (items_in us) (items_in vs) c.in_ok-inside.inside c.drop_items-left.result (s ∷ []) (each_item c.in_ok-inside.ensures.walked)
    (items_shaken (shaker c.args.rules.known) c.drop_items-left.result us vs c.drop_items-left.ensures.shaken)

pub returns-clause-known : goal.returns-clause-known
returns-clause-known c = known_kept c.shake_units.new.items.items c.drop_items-left.new.items.items c.drop_items-left.ensures.kept c.in_ok-inside.ensures.known

pub returns-clause-said : goal.returns-clause-said
returns-clause-said c = λ g h. said_kept c.shake_units.new.items.items c.drop_items-left.new.items.items c.drop_items-left.ensures.kept g (c.in_ok-inside.ensures.said g h)
