-- How many digits a number of 64 bits has.
use Rattle.std.proofs.Common.{◌≡◌, ℕ, ◌+◌, ◌/◌, ◌%◌, ◌^◌, ◌≤◌, ◌<◌, [], ◌∷◌, length, sym, ap, ◌∙◌, length-append, decimal, arith}
use Rattle.std.proofs.lemmas.Fmt.{decimal_digit, decimal_step, length-decimal-le}

pub one_digit : (n : ℕ) → n < 10 → 1 ≡ length (decimal n)
one_digit n h = sym (ap length (decimal_digit n h))

pub one_more : (n k : ℕ) → 10 ≤ n → n < 2 ^ 64 → k ≡ length (decimal (n / 10)) → k + 1 ≡ length (decimal n)
one_more n k h l e = ap (λ j. j + 1) e ∙ sym (ap length (decimal_step n h l) ∙ length-append (decimal (n / 10)) ((48 + n % 10) ∷ []))

pub few_digits : (n k : ℕ) → n < 2 ^ 64 → k ≡ length (decimal n) → k + 1 < 2 ^ 64
few_digits n k h e = let p = length-decimal-le 20 n (omega arith) (omega (arith, h)) h in omega (arith, p, e)
