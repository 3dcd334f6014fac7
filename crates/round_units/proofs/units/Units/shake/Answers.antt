use Rattle.std.proofs.Common.{[], ◌∷◌, sym, subst}
use Rattle.swc_ast.specs.Modules.{item_tree}
use Rattle.swc_ast.specs.Parts.{list_trees}
use Rattle.swc_ast.specs.Tree.{Module, node}
use Rattle.swc_pass.specs.Pass.{TellsChange}
use Rattle.dce_code.specs.Knowledge.{shaker}
use Rattle.dce_uses.specs.Said.{register_of}
use Rattle.dce_uses.specs.Tables.{Tells}
use Rattle.swc_dce.specs.Configured.{told}
use Rattle.swc_dce.specs.Shaken.{Shaken}
use Rattle.swc_dce.proofs.ShakeLaw.{shaken, tells}
use Rattle.round_units.specs.declared.unit.Unit.{Unit}
use Rattle.round_units.specs.Held.{Held}
use Rattle.round_units.specs.Rests.{AllSay, items_in}
use Rattle.round_units.specs.Trees.{units_tree, tree_of}
use Rattle.static_proofs.proofs.ShapedViews.{items_shaped}
use Rattle.round_units.proofs.Lists.{all_said, mapped, say_more}
use Rattle.round_units.proofs.units.Units.shake.Goals as goal

pub tell-requires : goal.tell-requires
tell-requires c = record { said = all_said (register_of c.self.inside.uses) c.self.inside.items.items c.deref.result.now c.deref.ensures.value c.self.invariant.1 }

pub shake_by-requires : goal.shake_by-requires
shake_by-requires c = record {
  known = c.self.invariant.0;
  said = subst (λ u. AllSay (register_of u) c.self.inside.items.items) (sym c.in_ok-rules.ensures.uses) (say_more c.self.inside.items.items _ _ c.in_ok-tell.ensures.grows c.self.invariant.1);
}

pub invariant_of-whole : goal.invariant_of-whole
invariant_of-whole c = (c.in_ok-changed.ensures.known, c.in_ok-changed.ensures.said _ (say_more c.self.inside.items.items _ _ c.in_ok-tell.ensures.grows c.self.invariant.1))

pub returns-clause-shaken : goal.returns-clause-shaken
returns-clause-shaken c =
    let s = c.self.inside.span in
    let us = c.self.inside.items.items in
    let vs = c.shake_by.new.items.items in
    let p = told c.args.names.now.unresolved_mark c.args.names.now.config in
    let told_of =
    subst (λ ts. Tells c.tell.new.self (node Module (s ∷ []) ts)) (sym (mapped us))
    (subst (λ xs. Tells c.tell.new.self (node Module (s ∷ []) (list_trees (λ (u : Unit). item_tree u.item) xs))) c.deref.ensures.value (c.in_ok-tell.ensures.tells (s ∷ []))) in
    subst (λ (m : Held). Shaken p (units_tree m) (tree_of s vs)) c.self.view_is
    (shaken p (shaker c.in_ok-rules.rules.known) c.in_ok-changed.changed (tree_of s us) (tree_of s vs) (c.in_ok-rules.ensures.made (tree_of s us) told_of) (items_shaped s (items_in us)) (c.in_ok-changed.ensures.shaken s))

pub returns-clause-changed : goal.returns-clause-changed
returns-clause-changed c =
    let s = c.self.inside.span in
    let us = c.self.inside.items.items in
    let vs = c.shake_by.new.items.items in
    subst (λ (m : Held). TellsChange c.in_ok-changed.changed (units_tree m) (tree_of s vs)) c.self.view_is
    (tells (shaker c.in_ok-rules.rules.known) c.in_ok-changed.changed (tree_of s us) (tree_of s vs) (c.in_ok-changed.ensures.shaken s))
