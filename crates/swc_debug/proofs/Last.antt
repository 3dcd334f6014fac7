-- The last child of a node, as a loop over the children comes to it.
use Rattle.std.proofs.Common.{◌≡◌, Bool, false, refl, ap, ◌∙◌, sym}
use Rattle.std.specs.Prelude.{not}
use Rattle.swc_ast.specs.Tree.{Tree, Forest, ε, ◌⊳◌}
use Rattle.swc_ast.specs.Valid.{is_absent, is_listed, is_last_absent, last_not_listed}

-- what holds of the last of some children behind one of which it is told
abbrev pub absent_after : Bool → Forest → Bool
absent_after b ε = b
absent_after b (t ⊳ ts) = is_last_absent (t ⊳ ts)

abbrev pub unlisted_after : Bool → Forest → Bool
unlisted_after b ε = not b
unlisted_after b (t ⊳ ts) = last_not_listed (t ⊳ ts)

pub absent_starts : (ts : Forest) → absent_after false ts ≡ is_last_absent ts
absent_starts ε = refl
absent_starts (t ⊳ ts) = refl

absent_next : (b : Bool) (t : Tree) (ts : Forest) → absent_after b (t ⊳ ts) ≡ absent_after (is_absent t) ts
absent_next b t ε = refl
absent_next b t (u ⊳ ts) = refl

pub absent_goes_on : (b c : Bool) (t : Tree) (ts us : Forest) (g : Bool) → us ≡ t ⊳ ts → c ≡ is_absent t → absent_after b us ≡ g → absent_after c ts ≡ g
absent_goes_on b c t ts us g is told h = ap (λ d. absent_after d ts) told ∙ sym (ap (absent_after b) is ∙ absent_next b t ts) ∙ h

pub unlisted_starts : (ts : Forest) → unlisted_after false ts ≡ last_not_listed ts
unlisted_starts ε = refl
unlisted_starts (t ⊳ ts) = refl

unlisted_next : (b : Bool) (t : Tree) (ts : Forest) → unlisted_after b (t ⊳ ts) ≡ unlisted_after (is_listed t) ts
unlisted_next b t ε = refl
unlisted_next b t (u ⊳ ts) = refl

pub unlisted_goes_on : (b c : Bool) (t : Tree) (ts us : Forest) (g : Bool) → us ≡ t ⊳ ts → c ≡ is_listed t → unlisted_after b us ≡ g → unlisted_after c ts ≡ g
unlisted_goes_on b c t ts us g is told h = ap (λ d. unlisted_after d ts) told ∙ sym (ap (unlisted_after b) is ∙ unlisted_next b t ts) ∙ h
