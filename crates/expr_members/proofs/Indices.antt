-- Keys that are indices of arrays.
use Rattle.std.proofs.Common.{◌≡◌, ℕ, ◌+◌, ◌-◌, ◌*◌, ◌/◌, ◌%◌, ◌^◌, ◌<◌, Bool, true, false, ◌&&◌, if◌then◌else◌, List, [], ◌∷◌, ◌++◌, Option, Some, None, refl, sym, ap, ◌∙◌, arith, bytes_eq, nat_lt, length}
use Rattle.std.proofs.lemmas.Bool.Decides.{nat_tests}
use Rattle.std.proofs.lemmas.Fmt.{decimal_by_steps, decimal_nonempty}
use Rattle.std.proofs.lemmas.Slice.Eq.{bytes_eq-Decides}
use Rattle.std.specs.Fmt.{decimal}
use Rattle.swc_ast.specs.Operators.{is_digit, digits_value, if_some, canonical, index_of}

digit : (d : ℕ) → d < 10 → is_digit (48 + d) ≡ true
digit d h = grind (arith, nat_tests)

taken : (b : Bool) (o : Option ℕ) → b ≡ true → (if b then o else None) ≡ o
taken true o h = refl
taken false o h = absurd (cc)

-- digits with one more behind them
digits_more : (a : ℕ) (ds : List ℕ) (v c : ℕ) → digits_value a ds ≡ Some v → is_digit c ≡ true → digits_value a (ds ++ (c ∷ [])) ≡ Some (10 * v + (c - 48))
digits_more a [] v c is h = taken (is_digit c) (Some (10 * a + (c - 48))) h ∙ ap (λ o. if_some o (λ w. Some (10 * w + (c - 48)))) is
digits_more a (d ∷ ds) v c is h = by (is_digit d) is (λ i. digits_more (10 * a + (d - 48)) ds v c i h)
  where
    by : (b : Bool) → (if b then digits_value (10 * a + (d - 48)) ds else None) ≡ Some v → (digits_value (10 * a + (d - 48)) ds ≡ Some v → digits_value (10 * a + (d - 48)) (ds ++ (c ∷ [])) ≡ Some (10 * v + (c - 48))) → (if b then digits_value (10 * a + (d - 48)) (ds ++ (c ∷ [])) else None) ≡ Some (10 * v + (c - 48))
    by true is more = more is
    by false is more = absurd (cc)

one_digit : (n : ℕ) → n < 10 → digits_value 0 ((48 + n) ∷ []) ≡ Some n
one_digit n h = taken (is_digit (48 + n)) (Some (10 * 0 + ((48 + n) - 48))) (digit n h) ∙ ap Some (omega arith)

rest_below : (n : ℕ) → n % 10 < 10
rest_below n = omega arith

put_together : (n : ℕ) → 10 * (n / 10) + ((48 + n % 10) - 48) ≡ n
put_together n = omega arith

spelled_back : (n : ℕ) → n < 2 ^ 64 → digits_value 0 (decimal n) ≡ Some n
spelled_back n h = decimal_by_steps (λ n ds. digits_value 0 ds ≡ Some n) one_digit (λ n ds large is. digits_more 0 ds (n / 10) (48 + n % 10) is (digit (n % 10) (rest_below n)) ∙ ap Some (put_together n)) n h

canonical_at : (n : ℕ) → n < 2 ^ 32 - 1 → canonical (decimal n) n ≡ Some n
canonical_at n h = by (bytes_eq (decimal n) (decimal n)) (nat_lt n (2 ^ 32 - 1)) ((bytes_eq-Decides (decimal n) (decimal n)).1 refl) (grind (arith, nat_tests))
  where
    by : (b c : Bool) → b ≡ true → c ≡ true → (if b && c then Some n else None) ≡ Some n
    by b c p q = ap (λ x. if x && c then Some n else None) p ∙ ap (λ x. if x then Some n else None) q

some_text : (k : List ℕ) → 0 < length k → index_of k ≡ if_some (digits_value 0 k) (canonical k)
unfolding index_of
some_text [] h = absurd (omega (arith, h))
some_text (c ∷ cs) h = refl

index_of_decimal : (n : ℕ) → n < 2 ^ 32 - 1 → index_of (decimal n) ≡ Some n
index_of_decimal n h = some_text (decimal n) (decimal_nonempty n (omega arith)) ∙ ap (λ o. if_some o (canonical (decimal n))) (spelled_back n (omega arith)) ∙ canonical_at n h

pub index_at : (k : List ℕ) (n : ℕ) → decimal n ≡ k → n < 2 ^ 32 - 1 → index_of k ≡ Some n
index_at k n is h = ap index_of (sym is) ∙ index_of_decimal n h
