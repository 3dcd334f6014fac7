-- Numbers among others.
use Rattle.std.proofs.Common.{ℕ, ◌≡◌, Bool, true, false, ◌||◌, List, [], ◌∷◌, ◌++◌, nat_eq, refl, ap, ◌∙◌, eq-eqb}
use Rattle.std.proofs.lemmas.Bool.{or_left}
use Rattle.dce_peel.specs.Rounds.{among}

or_grouped : (a b c : Bool) → (a || (b || c)) ≡ ((a || b) || c)
or_grouped true b c = refl
or_grouped false b c = refl

pub or_none : (b : Bool) → (b || false) ≡ b
or_none true = refl
or_none false = refl

-- one more behind them
pub among_more : (ns : List ℕ) (m n : ℕ) → among (ns ++ m ∷ []) n ≡ (among ns n || nat_eq n m)
among_more [] m n = or_none (nat_eq n m)
among_more (k ∷ ks) m n = ap (λ b. nat_eq n k || b) (among_more ks m n) ∙ or_grouped (nat_eq n k) (among ks n) (nat_eq n m)

-- those that were there still are
pub more_grows : (ns : List ℕ) (m n : ℕ) → among ns n ≡ true → among (ns ++ m ∷ []) n ≡ true
more_grows ns m n h = among_more ns m n ∙ or_left (among ns n) (nat_eq n m) h

-- and so is the last
pub last_among : (ns : List ℕ) (m : ℕ) → among (ns ++ m ∷ []) m ≡ true
last_among ns m = among_more ns m m ∙ ap (λ b. among ns m || b) (eq-eqb m m refl) ∙ or_true (among ns m)
  where
    or_true : (b : Bool) → (b || true) ≡ true
    or_true true = refl
    or_true false = refl
