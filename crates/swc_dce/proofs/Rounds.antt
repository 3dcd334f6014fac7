-- Rounds that are done at once.
use Rattle.std.proofs.Common.{ℕ, ◌+◌, ◌≡◌, ◌≤◌, ◌<◌, true, List, [], ◌∷◌, get_or, set, refl, sym, ap, ap₂, subst, ◌∙◌, arith}
use Rattle.swc_ast.specs.Marks.{mark_number}
use Rattle.swc_ast.specs.Modules.{item_tree, module_tree}
use Rattle.swc_ast.specs.Parts.{list_trees}
use Rattle.swc_ast.specs.Tree.{Module as Whole, Tree, node}
use Rattle.swc_ast.specs.declared.modules.Module.{Module}
use Rattle.swc_ast.specs.declared.modules.ModuleItem.{ModuleItem}
use Rattle.dce_peel.specs.Rounds.{staying}
use Rattle.dce_layer_proofs.specs.Frames.{own, wrapped, within}
use Rattle.dce_layer_proofs.specs.Layers.{live}
use Rattle.dce_items.specs.declared.inside.Inside.{Inside}
use Rattle.dce_items.specs.Described.{layered, IsLayered}
use Rattle.dce_items.specs.Remaining.{RemainsIn}
use Rattle.dce_items.specs.Wrapped.{LayeredInside, around}
use Rattle.dce_items.proofs.Laying.{staying_live}
use Rattle.dce_items.proofs.Replacing.{module_within, module_replaced, wrapper_there}
use Rattle.swc_dce.specs.Peeling.{PeeledBy}
use Rattle.swc_dce.specs.Shaken.{Told}

-- no round
pub no_rounds : (told : Told) (most : ℕ) (t : Tree) → PeeledBy told most t 0 t
no_rounds told most t = record { few = omega arith; none = λ e. refl; some = λ h. absurd (omega (arith, h)) }

-- none, where the tree is the same
pub none_left : (told : Told) (most : ℕ) (t u : Tree) → u ≡ t → PeeledBy told most t 0 u
none_left told most t u same = record { few = omega arith; none = λ e. same; some = λ h. absurd (omega (arith, h)) }

-- some rounds, by the layers of a module's items
pub some_rounds : (told : Told) (mark most rounds : ℕ) (m r : Module) (rs : List ℕ) → mark ≡ mark_number told.mark → told.top_level ≡ true → rounds ≤ most → (rounds ≡ 0 → ⊥) → (0 < rounds → IsLayered mark told.retained rounds (own (m.span ∷ [])) (list_trees item_tree m.body.items) rs) → r.span ≡ m.span → r.body.items ≡ staying rounds m.body.items rs → PeeledBy told most (module_tree m) rounds (module_tree r)
some_rounds told mark most rounds m r rs marked top few some layered_by spans left = record {
  few = few;
  none = λ e. absurd (some e);
  some = λ h. let l = subst (λ n. IsLayered n told.retained rounds (own (m.span ∷ [])) (list_trees item_tree m.body.items) rs) marked (layered_by h) in record {
    top_level = top;
    frame = own (m.span ∷ []);
    others = l.others;
    layers = layered (list_trees item_tree m.body.items) rs;
    whole = ap (node Whole (m.span ∷ [])) (sym l.whole);
    left = ap₂ (λ s xs. node Whole (s ∷ []) xs) spans (ap (list_trees item_tree) left ∙ staying_live item_tree rounds m.body.items rs l.whole);
    peels = l.peels;
  };
}

-- some rounds, by the layers of the items of a wrapper's body
pub some_inside : (told : Told) (mark most : ℕ) (m r : Module) (i : Inside) (old new : ModuleItem) → mark ≡ mark_number told.mark → told.top_level ≡ true → i.rounds ≤ most → LayeredInside mark told.retained m i → old ≡ get_or m.body.items i.at old → RemainsIn wrapped i (item_tree old) (item_tree new) → r.span ≡ m.span → r.body.items ≡ set m.body.items i.at new → PeeledBy told most (module_tree m) i.rounds (module_tree r)
some_inside told mark most m r i old new marked top few at_mark stood remains spanned is =
    let l : LayeredInside (mark_number told.mark) told.retained m i = subst (λ n. LayeredInside n told.retained m i) marked at_mark in
    let w = l.stands.is.parts in
    let frame = around (m.span ∷ []) m.body.items i.at w in
    let layers = layered l.body i.layers.items in
    record {
      few = few;
      none = λ e. absurd (omega (arith, e, l.some));
      some = λ h. record {
        top_level = top;
        frame = frame;
        others = l.layered.others;
        layers = layers;
        whole = module_within m i.at l.body l.stands ∙ ap (within frame) (sym l.layered.whole);
        left = module_replaced m r i.at w (live (i.rounds + 1) layers) new l.stands.there spanned is (remains w l.body (wrapper_there m.body.items i.at l.body old l.stands stood) l.layered.whole);
        peels = l.layered.peels;
      };
    }
