-- Numbers that digits spell, where they stay within the core.
use Rattle.std.proofs.Common.{◌≡◌, ℕ, suc, ◌+◌, ◌-◌, ◌*◌, ◌<◌, Bool, true, false, if◌then◌else◌, List, [], ◌∷◌, length, drop, get_or, Option, Some, None, refl, sym, ap, ◌∙◌, arith}
use Rattle.swc_ast.specs.Operators.{greatest, is_digit, digits_value}
use Rattle.swc_utils.specs.Digits.{capped, digits_spelled}
use Rattle.std.proofs.Math.Seq.{drop-cons}

cap_one : (n : ℕ) → greatest < n → capped (Some n) ≡ None
cap_one n h = grind arith

if_digit : (b : Bool) (o : Option ℕ) → capped o ≡ None → capped (if b then o else None) ≡ None
if_digit true o h = h
if_digit false o h = refl

pub too_large : (n : ℕ) (cs : List ℕ) → greatest < n → capped (digits_value n cs) ≡ None
too_large n [] h = cap_one n h
too_large n (c ∷ cs) h = if_digit (is_digit c) (digits_value (10 * n + (c - 48)) cs) (too_large (10 * n + (c - 48)) cs (omega arith))

started : (xs : List ℕ) (i : ℕ) → i < length xs → digits_value 0 xs ≡ digits_spelled xs
started [] i h = absurd (omega (arith, h))
started (x ∷ xs) i h = refl

one_digit : (n x : ℕ) (xs : List ℕ) → is_digit x ≡ true → digits_value n (x ∷ xs) ≡ digits_value (10 * n + (x - 48)) xs
one_digit n x xs h = ap (λ b. if b then digits_value (10 * n + (x - 48)) xs else None) h

-- a digit that leads past the core
pub leads_past : (xs : List ℕ) (i n m : ℕ) → i < length xs → is_digit (get_or xs i 0) ≡ true → m ≡ 10 * n + (get_or xs i 0 - 48) → greatest < m → capped (digits_value n (drop i xs)) ≡ capped (digits_value 0 xs) → None ≡ capped (digits_spelled xs)
leads_past xs i n m within digit is past h =
    sym (ap (λ ys. capped (digits_value n ys)) (drop-cons xs i 0 within) ∙ ap capped (one_digit n (get_or xs i 0) (drop (suc i) xs) digit ∙ ap (λ k. digits_value k (drop (suc i) xs)) (sym is)) ∙ too_large m (drop (suc i) xs) past) ∙ h ∙ ap capped (started xs i within)
