-- Places of lists, and numbers in them.
use Rattle.std.proofs.Common.{◌≡◌, ℕ, zero, suc, ◌+◌, ◌<◌, ◌==◌, Bool, true, false, cond, not, ◌||◌, ◌&&◌, inl, inr, List, [], ◌∷◌, length, set, take, get_or, count_by, Some, slice_get, refl, sym, ap, ◌∙◌, arith}
use Rattle.std.proofs.lemmas.Bool.{and_parts}
use Rattle.std.proofs.lemmas.Bool.Decides.{eqb_tells}
use Rattle.std.proofs.lemmas.List.Sums.{sum_by-cons}
use Rattle.given_rules.specs.Cycles.{is_among}
use Rattle.given_rules.specs.Met.{covers}

-- what a place holds once something is set there, and what the others hold

pub get_set_same : {X : Type 0} (xs : List X) (i : ℕ) (a : X) → i < length xs → slice_get (set xs i a) i ≡ Some a
get_set_same [] i a h = absurd (omega (arith, h))
get_set_same (x ∷ xs) zero a h = refl
get_set_same (x ∷ xs) (suc i) a h = get_set_same xs i a (omega (arith, h))

pub get_set_other : {X : Type 0} (xs : List X) (i j : ℕ) (a : X) → (i ≡ j → ⊥) → slice_get (set xs i a) j ≡ slice_get xs j
get_set_other [] i j a n = refl
get_set_other (x ∷ xs) zero zero a n = absurd (n refl)
get_set_other (x ∷ xs) zero (suc j) a n = refl
get_set_other (x ∷ xs) (suc i) zero a n = refl
get_set_other (x ∷ xs) (suc i) (suc j) a n = get_set_other xs i j a (λ e. n (ap suc e))

zero_step : (c : ℕ) → (0 + c) + 1 ≡ 1 + c
zero_step c = omega arith

more_step : (k m n : ℕ) → m + 1 ≡ n → (k + m) + 1 ≡ k + n
more_step k m n e = omega (arith, e)

-- one more is begun
pub count_begun : (bs : List Bool) (i : ℕ) → slice_get bs i ≡ Some false → count_by not (set bs i true) + 1 ≡ count_by not bs
count_begun [] i e = cc
count_begun (true ∷ bs) zero e = cc
count_begun (false ∷ bs) zero e = ap (λ n. n + 1) (sum_by-cons (λ b. cond (not b) 1 0) true bs) ∙ zero_step (count_by not bs) ∙ sym (sum_by-cons (λ b. cond (not b) 1 0) false bs)
count_begun (b ∷ bs) (suc i) e =
    ap (λ n. n + 1) (sum_by-cons (λ x. cond (not x) 1 0) b (set bs i true))
    ∙ more_step (cond (not b) 1 0) (count_by not (set bs i true)) (count_by not bs) (count_begun bs i e)
    ∙ sym (sum_by-cons (λ x. cond (not x) 1 0) b bs)

-- a number at a place of a list that is covered

pub covers_at : (has : ℕ → Bool) (is : List ℕ) (k d : ℕ) → covers has is ≡ true → k < length is → has (get_or is k d) ≡ true
covers_at has [] k d c h = absurd (omega (arith, h))
covers_at has (i ∷ is) zero d c h = (and_parts (has i) (covers has is) c).0
covers_at has (i ∷ is) (suc k) d c h = covers_at has is k d (and_parts (has i) (covers has is) c).1 (omega (arith, h))

pub covers_one : (has : ℕ → Bool) (i : ℕ) → has i ≡ true → covers has (i ∷ []) ≡ true
covers_one has i h = ap (λ b. b && true) h

-- where more is had, more is covered
pub covers_more : (has had : ℕ → Bool) → ((i : ℕ) → had i ≡ true → has i ≡ true) → (is : List ℕ) → covers had is ≡ true → covers has is ≡ true
covers_more has had f [] c = refl
covers_more has had f (i ∷ is) c = let p = and_parts (had i) (covers had is) c in ap (λ b. b && covers has is) (f i p.0) ∙ covers_more has had f is p.1

pub same_number : (i : ℕ) → (i == i) ≡ true
same_number i = elim (eqb_tells i i) [ inl e ↦ e.0 | inr e ↦ absurd (e.1 refl) ]

or_right : (b c : Bool) → c ≡ true → (b || c) ≡ true
or_right true c h = refl
or_right false c h = h

pub among_at : (is : List ℕ) (k d : ℕ) → k < length is → is_among (get_or is k d) is ≡ true
among_at [] k d h = absurd (omega (arith, h))
among_at (i ∷ is) zero d h = ap (λ b. b || is_among i is) (same_number i)
among_at (i ∷ is) (suc k) d h = or_right (i == get_or is k d) (is_among (get_or is k d) is) (among_at is k d (omega (arith, h)))

pub take_none : {X : Type 0} (xs : List X) → take 0 xs ≡ []
take_none [] = refl
take_none (x ∷ xs) = refl
