-- Reading a number of decimal digits.
use Rattle.std.proofs.Common.{rules, arith, ◌≡◌, ℕ, ◌<◌, ◌^◌, length, true, false, List, [], ◌∷◌, None, Result, Ok, Err, refl}
use Rattle.std.specs.Char.{is_ascii_digit}
use Rattle.std.specs.List.{list_all}
use Rattle.std.specs.Result.{OkIff, result_ok}
use Rattle.std.specs.Str.Parse.{digits_value, ParsesUnsigned}
use Rattle.std.proofs.lemmas.Str.Parse.{IsDigitsTest, numerals_by_value, parse_digits}
use Rattle.std.proofs.lemmas.Grind.{common_steps}
use Rattle.shake_options.specs.CommandLine.{count_in}

pub tells_digits : IsDigitsTest (λ ds. list_all is_ascii_digit ds ≡ true)
tells_digits = search rules

-- a text of digits is read as `count_in` says
pub counted : {E : Type 0} (bs : List ℕ) (r : Result ℕ E) → list_all is_ascii_digit bs ≡ true → OkIff r ((0 < length bs) × (digits_value 10 bs < 2 ^ 64)) (digits_value 10 bs) → result_ok r ≡ count_in bs
counted [] (Ok n) digits is = absurd (omega (arith, is.0.0))
counted [] (Err e) digits is = refl
counted (c ∷ cs) (Ok n) digits is = grind (arith, common_steps)
counted (c ∷ cs) (Err e) digits is = grind (arith, common_steps)

pub parsed : {E : Type 0} (bs : List ℕ) (r : Result ℕ E) → list_all is_ascii_digit bs ≡ true → ParsesUnsigned 64 10 bs r → result_ok r ≡ count_in bs
parsed bs r digits is = counted bs r digits (parse_digits (numerals_by_value _ tells_digits) 64 bs r is digits)

-- any other text holds none
pub uncounted : (bs : List ℕ) → list_all is_ascii_digit bs ≡ false → None ≡ count_in bs
uncounted [] other = refl
uncounted (c ∷ cs) other = grind (arith, common_steps)
