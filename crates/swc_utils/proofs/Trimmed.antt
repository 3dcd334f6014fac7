-- The end of a text, as a loop takes it away from behind.
use Rattle.std.proofs.Common.{◌≡◌, ℕ, suc, ◌-◌, ◌≤◌, nat_lt, ◌==◌, Bool, true, false, ◌&&◌, if◌then◌else◌, List, [], ◌∷◌, ◌++◌, length, take, get_or, refl, sym, ap, ◌∙◌, arith}
use Rattle.std.proofs.lemmas.Bool.Decides.{nat_tests}
use Rattle.swc_ast.specs.Operators.{is_space, trim_end, ends_in_ascii}

last_of : (x : ℕ) (xs : List ℕ) → take (length xs) (x ∷ xs) ++ (get_or (x ∷ xs) (length xs) 0 ∷ []) ≡ x ∷ xs
last_of x [] = refl
last_of x (y ∷ ys) = ap (λ zs. x ∷ zs) (last_of y ys)

one_less : (n : ℕ) → suc n - 1 ≡ n
one_less n = omega arith

-- a list is its front and its last element
pub front_and_last : (xs : List ℕ) → 1 ≤ length xs → take (length xs - 1) xs ++ (get_or xs (length xs - 1) 0 ∷ []) ≡ xs
front_and_last [] h = absurd (omega (arith, h))
front_and_last (x ∷ xs) h = ap (λ n. take n (x ∷ xs) ++ (get_or (x ∷ xs) n 0 ∷ [])) (one_less (length xs)) ∙ last_of x xs

ends_as : (ys : List ℕ) (c : ℕ) → ends_in_ascii (ys ++ (c ∷ [])) ≡ nat_lt c 128
ends_as [] c = refl
ends_as (y ∷ []) c = refl
ends_as (y ∷ z ∷ ys) c = ends_as (z ∷ ys) c

pub ends_at_last : (xs : List ℕ) → 1 ≤ length xs → ends_in_ascii xs ≡ nat_lt (get_or xs (length xs - 1) 0) 128
ends_at_last xs h = ap ends_in_ascii (sym (front_and_last xs h)) ∙ ends_as (take (length xs - 1) xs) _

trim_last : (ys : List ℕ) (c : ℕ) → is_space c ≡ true → trim_end (ys ++ (c ∷ [])) ≡ trim_end ys
trim_last [] c h = ap (λ b. if b && true then [] else c ∷ []) h
trim_last (y ∷ ys) c h = ap (λ rest. if is_space y && (length rest == 0) then [] else y ∷ rest) (trim_last ys c h)

nonzero : (n : ℕ) → (suc n == 0) ≡ false
nonzero n = grind (arith, nat_tests)

some_length : (ys : List ℕ) (c : ℕ) → (length (ys ++ (c ∷ [])) == 0) ≡ false
some_length [] c = refl
some_length (y ∷ ys) c = nonzero (length (ys ++ (c ∷ [])))

kept : (b e : Bool) (r : List ℕ) → e ≡ false → (if b && e then [] else r) ≡ r
kept true e r h = ap (λ x. if x then [] else r) h
kept false e r h = refl

trim_stays : (ys : List ℕ) (c : ℕ) → is_space c ≡ false → trim_end (ys ++ (c ∷ [])) ≡ ys ++ (c ∷ [])
trim_stays [] c h = ap (λ b. if b && true then [] else c ∷ []) h
trim_stays (y ∷ ys) c h = ap (λ rest. if is_space y && (length rest == 0) then [] else y ∷ rest) (trim_stays ys c h) ∙ kept (is_space y) _ _ (some_length ys c)

pub trims_on : (xs : List ℕ) → 1 ≤ length xs → is_space (get_or xs (length xs - 1) 0) ≡ true → trim_end xs ≡ trim_end (take (length xs - 1) xs)
trims_on xs h s = ap trim_end (sym (front_and_last xs h)) ∙ trim_last (take (length xs - 1) xs) _ s

pub trims_no_more : (xs : List ℕ) → 1 ≤ length xs → is_space (get_or xs (length xs - 1) 0) ≡ false → trim_end xs ≡ xs
trims_no_more xs h s = ap trim_end (sym (front_and_last xs h)) ∙ trim_stays (take (length xs - 1) xs) _ s ∙ front_and_last xs h
