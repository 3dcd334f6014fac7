-- A module whose nodes stand where they may is so where its list loses items.
use Rattle.std.proofs.Common.{ℕ, ◌≡◌, Bool, true, false, ◌&&◌, if◌then◌else◌, nat_lt, [], ◌∷◌, refl, sym, ap, ◌∙◌}
use Rattle.std.proofs.lemmas.Bool.{and_from, and_parts}
use Rattle.swc_ast.specs.Scope.{joined}
use Rattle.swc_ast.specs.Tree.{Label, Tree, node, Forest, ε, ◌⊳◌, label_of}
use Rattle.static_proofs.specs.Shaped.{is_statement, is_whole_item, labels_of, all_labels, is_shaped, are_shaped, IsShaped}
use Rattle.dce_layer_proofs.specs.Frames.{Wrapper, wrapped, Frame, own, wrapper, within}
use Rattle.dce_layer_proofs.specs.Layers.{Layers, items, live}

-- the labels of the first and of the others
labels_split : (p : Label → Bool) (t : Tree) (ts : Forest) → all_labels p (labels_of (t ⊳ ts)) ≡ (p (label_of t) && all_labels p (labels_of ts))
labels_split p (node l ss cs) ts = refl

labels_left : (p : Label → Bool) (r : ℕ) (ps : Layers) → all_labels p (labels_of (items ps)) ≡ true → all_labels p (labels_of (live r ps)) ≡ true
labels_left p r [] h = refl
labels_left p r (q ∷ ps) h = let k = and_parts (p (label_of q.0)) (all_labels p (labels_of (items ps))) (sym (labels_split p q.0 (items ps)) ∙ h) in by (nat_lt q.1 r) k.0 (labels_left p r ps k.1)
  where
    by : (b : Bool) → p (label_of q.0) ≡ true → all_labels p (labels_of (live r ps)) ≡ true → all_labels p (labels_of (if b then live r ps else (q.0 ⊳ live r ps))) ≡ true
    by true e k = k
    by false e k = labels_split p q.0 (live r ps) ∙ and_from (p (label_of q.0)) (all_labels p (labels_of (live r ps))) e k

shaped_left : (r : ℕ) (ps : Layers) → are_shaped (items ps) ≡ true → are_shaped (live r ps) ≡ true
shaped_left r [] h = refl
shaped_left r (q ∷ ps) h = let k = and_parts (is_shaped q.0) (are_shaped (items ps)) h in by (nat_lt q.1 r) k.0 (shaped_left r ps k.1)
  where
    by : (b : Bool) → is_shaped q.0 ≡ true → are_shaped (live r ps) ≡ true → are_shaped (if b then live r ps else (q.0 ⊳ live r ps)) ≡ true
    by true e k = k
    by false e k = and_from (is_shaped q.0) (are_shaped (live r ps)) e k

-- a list
list_left : (p : Label → Bool) (r : ℕ) (ps : Layers) → (all_labels p (labels_of (items ps)) && are_shaped (items ps)) ≡ true → (all_labels p (labels_of (live r ps)) && are_shaped (live r ps)) ≡ true
list_left p r ps h =
    let k = and_parts (all_labels p (labels_of (items ps))) (are_shaped (items ps)) h in
    and_from (all_labels p (labels_of (live r ps))) (are_shaped (live r ps)) (labels_left p r ps k.0) (shaped_left r ps k.1)

-- a wrapper is shaped where its list is
in_three : (a : Bool) → (((a && true) && true) && true) ≡ a
in_three true = refl
in_three false = refl

abbrev body_shaped : Forest → Bool
body_shaped ts = all_labels is_statement (labels_of ts) && are_shaped ts

wrapped_shaped : (w : Wrapper) (ts : Forest) → is_shaped (wrapped w ts) ≡ body_shaped ts
wrapped_shaped w ts = by w.is_arrow
  where
    by : (b : Bool) → is_shaped (wrapped (record { is_arrow = b; statement = []; call = []; function = []; params = []; body = [] }) ts) ≡ body_shaped ts
    by true = in_three (body_shaped ts)
    by false = in_three (body_shaped ts)

-- and a list with it
labels_around : (before behind : Forest) (w : Wrapper) (ts us : Forest) → labels_of (joined before (wrapped w us ⊳ behind)) ≡ labels_of (joined before (wrapped w ts ⊳ behind))
labels_around ε behind w ts us = refl
labels_around (node l ss cs ⊳ before) behind w ts us = ap (λ ls. l ∷ ls) (labels_around before behind w ts us)

shaped_around : (before behind : Forest) (t u : Tree) → (is_shaped t ≡ true → is_shaped u ≡ true) → are_shaped (joined before (t ⊳ behind)) ≡ true → are_shaped (joined before (u ⊳ behind)) ≡ true
shaped_around ε behind t u f h = let k = and_parts (is_shaped t) (are_shaped behind) h in and_from (is_shaped u) (are_shaped behind) (f k.0) k.1
shaped_around (s ⊳ before) behind t u f h = let k = and_parts (is_shaped s) (are_shaped (joined before (t ⊳ behind))) h in and_from (is_shaped s) (are_shaped (joined before (u ⊳ behind))) k.0 (shaped_around before behind t u f k.1)

-- the module that has the list
pub module_left : (F : Frame) (r : ℕ) (ps : Layers) → IsShaped (within F (items ps)) → IsShaped (within F (live r ps))
module_left (own ss) r ps s = record { shaped = list_left is_whole_item r ps s.shaped }
module_left (wrapper ss before w behind) r ps s =
    let old = joined before (wrapped w (items ps) ⊳ behind) in
    let new = joined before (wrapped w (live r ps) ⊳ behind) in
    let k = and_parts (all_labels is_whole_item (labels_of old)) (are_shaped old) s.shaped in
    record {
      shaped = and_from (all_labels is_whole_item (labels_of new)) (are_shaped new) (ap (all_labels is_whole_item) (labels_around before behind w (items ps) (live r ps)) ∙ k.0)
          (shaped_around before behind (wrapped w (items ps)) (wrapped w (live r ps)) (λ h. wrapped_shaped w (live r ps) ∙ list_left is_statement r ps (sym (wrapped_shaped w (items ps)) ∙ h)) k.1);
    }
