-- How many bytes stand in quotes for those of a text.
use Rattle.std.proofs.Common.{◌≡◌, ℕ, suc, inl, inr, ◌<◌, ◌≤◌, ◌/◌, ◌%◌, length, Bool, true, false, nat_lt, cond, sym, ap, ◌∙◌, List, [], ◌∷◌, arith}
use Rattle.std.proofs.lemmas.Bool.Decides.{leb_tells}
use Rattle.std.specs.Char.{digit_char}
use Rattle.json.specs.Print.{escape_letter, escape_byte, escape}

-- a letter behind a backslash
pub letter_length : (x : ℕ) → nat_lt 0 (escape_letter x) ≡ true → 2 ≡ length (escape_byte x)
unfolding escape_byte
letter_length x h = sym (ap (λ b. length (cond b (92 ∷ escape_letter x ∷ []) (cond (nat_lt x 32) (92 ∷ 117 ∷ 48 ∷ 48 ∷ digit_char (x / 16) ∷ digit_char (x % 16) ∷ []) (x ∷ [])))) h)

other_length : (x : ℕ) (b : Bool) → nat_lt 0 (escape_letter x) ≡ false → nat_lt x 32 ≡ b → length (escape_byte x) ≡ length (cond b (92 ∷ 117 ∷ 48 ∷ 48 ∷ digit_char (x / 16) ∷ digit_char (x % 16) ∷ []) (x ∷ []))
unfolding escape_byte
other_length x b h is = ap (λ a. length (cond a (92 ∷ escape_letter x ∷ []) (cond (nat_lt x 32) (92 ∷ 117 ∷ 48 ∷ 48 ∷ digit_char (x / 16) ∷ digit_char (x % 16) ∷ []) (x ∷ [])))) h ∙ ap (λ a. length (cond a (92 ∷ 117 ∷ 48 ∷ 48 ∷ digit_char (x / 16) ∷ digit_char (x % 16) ∷ []) (x ∷ []))) is

-- `\u` and four digits
pub control_length : (x : ℕ) → nat_lt 0 (escape_letter x) ≡ false → x < 32 → 6 ≡ length (escape_byte x)
control_length x h is = sym (other_length x true h (elim (leb_tells (suc x) 32) [ inl p ↦ p.0 | inr p ↦ absurd (omega (arith, p.1, is)) ]))

-- the byte itself
pub plain_length : (x : ℕ) → nat_lt 0 (escape_letter x) ≡ false → 32 ≤ x → 1 ≡ length (escape_byte x)
plain_length x h is = sym (other_length x false h (elim (leb_tells (suc x) 32) [ inl p ↦ absurd (omega (arith, p.1, is)) | inr p ↦ p.0 ]))

abbrev pub escaped : List ℕ → ℕ
escaped xs = length (escape xs)
