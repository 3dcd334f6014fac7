-- Trees whose labels differ are not the same.
use Rattle.std.proofs.Common.{◌≡◌, refl, sym, ap, ◌∙◌, Bool, true, false, ◌==◌}
use Rattle.std.specs.Prelude.{ℕ}
use Rattle.std.specs.Cmp.{unsigned_Decides}
use Rattle.swc_ast.specs.Tree.{Label, Tree, node, bare, label_of}
use Rattle.swc_ast.specs.Same.{same}
use Rattle.swc_ast.specs.SameLaws.{same-is, same-bare, impossible}

bare-label : (t : Tree) → label_of (bare t) ≡ label_of t
bare-label (node l ss cs) = refl

same-label : (s : Bool) (t u : Tree) → same s t u ≡ true → label_of t ≡ label_of u
same-label true t u e = ap label_of (same-is t u e)
same-label false t u e = sym (bare-label t) ∙ ap label_of (same-bare t u e) ∙ bare-label u

not-true : (b : Bool) → (b ≡ true → ⊥) → false ≡ b
not-true true never = absurd (never refl)
not-true false never = refl

-- by what a function of labels gives for each
pub differ : (f : Label → ℕ) (s : Bool) (t u : Tree) (m n : ℕ) → f (label_of t) ≡ m → f (label_of u) ≡ n → (m == n) ≡ false → false ≡ same s t u
differ f s t u m n at_t at_u other = not-true _ (λ e. impossible (sym other ∙ (unsigned_Decides m n).1 (sym at_t ∙ ap f (same-label s t u e) ∙ at_u)))
