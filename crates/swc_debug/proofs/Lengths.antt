-- Words of another length or with another first letter than a text are not that text.
use Rattle.std.proofs.Common.{◌≡◌, ℕ, Bool, true, false, ◌==◌, List, ◌∷◌, length, bytes_eq, refl, sym, ap, ◌∙◌}
use Rattle.std.specs.Prelude.{◌&&◌}
use Rattle.std.proofs.lemmas.Bool.{false≢true, eq-eqb}
use Rattle.std.proofs.lemmas.Slice.Eq.{bytes_eq-Decides}

pub unlike : (t u : List ℕ) → (length u == length t) ≡ false → bytes_eq t u ≡ false
unlike t u h = by_case (bytes_eq t u) refl
  where
    by_case : (b : Bool) → bytes_eq t u ≡ b → b ≡ false
    by_case false e = refl
    by_case true e = absurd (false≢true (sym h ∙ eq-eqb (length u) (length t) (sym (ap length ((bytes_eq-Decides t u).0 e)))))

pub other_start : (c d : ℕ) (cs ds : List ℕ) → (c == d) ≡ false → bytes_eq (c ∷ cs) (d ∷ ds) ≡ false
other_start c d cs ds h = ap (λ b. b && bytes_eq cs ds) h
