-- Texts in quotes and in templates (ECMA-262, 12.9.4 and 12.9.6), and what they stand for, in UTF-8. A relation has a value from one place
-- to another, as it has a text.
use Rattle.std.specs.Prelude.{ℕ, ◌≡◌, ◌+◌, ◌*◌, ◌-◌, ◌==◌, ◌||◌, ◌&&◌, Bool, true, false, not, nat_le, if◌then◌else◌, List, [], ◌∷◌, ◌++◌, encode_utf8, suc, zero}
use Rattle.text_tokens.specs.Lines.{Blanks, is_line_end, begins_byte, begins_line_end, is_separator}
use Rattle.text_tokens.specs.Tokens.{is_digit}

-- a hexadecimal digit and its value
abbrev pub is_hex : ℕ → Bool
is_hex c = is_digit c || (nat_le 65 c && nat_le c 70) || (nat_le 97 c && nat_le c 102)

abbrev pub hex : ℕ → ℕ
hex c = if nat_le 97 c then c - 87 else (if nat_le 65 c then c - 55 else c - 48)

-- so many hexadecimal digits behind others: the value of the others, and of all
pub data Hexes : ℕ → ℕ → ℕ → List ℕ → List ℕ → Type 0 where
  no_hex : {n : ℕ} {e : List ℕ} → Hexes 0 n n e e
  one_hex : {k m n : ℕ} {b e : List ℕ} (c : ℕ) → is_hex c ≡ true → Hexes k (m * 16 + hex c) n b e → Hexes (suc k) m n (c ∷ b) e

-- digits and the closing brace
pub data Braces : ℕ → List ℕ → List ℕ → Type 0 where
  braces : {k n : ℕ} {b e : List ℕ} → Hexes (suc k) 0 n b (125 ∷ e) → Braces n b e

-- what stands behind a backslash as `u0041` or `u{41}` (12.9.4, UnicodeEscapeSequence): a code point, or one half of one
pub data Unit : ℕ → List ℕ → List ℕ → Type 0 where
  four : {n : ℕ} {b e : List ℕ} → Hexes 4 0 n b e → Unit n (117 ∷ b) e
  braced : {n : ℕ} {b e : List ℕ} → Braces n b e → Unit n (117 ∷ 123 ∷ b) e

abbrev pub is_scalar : ℕ → Bool
is_scalar n = not (nat_le 55296 n) || (nat_le 57344 n && nat_le n 1114111)

abbrev pub is_high : ℕ → Bool
is_high n = nat_le 55296 n && nat_le n 56319

abbrev pub is_low : ℕ → Bool
is_low n = nat_le 56320 n && nat_le n 57343

-- the code point of two halves (11.1.3, UTF16SurrogatePairToCodePoint)
abbrev pub joined : ℕ → ℕ → ℕ
joined h l = (h - 55296) * 1024 + (l - 56320) + 65536

-- a line end, by longest match (12.3, LineTerminatorSequence)
pub data LineBreak : List ℕ → List ℕ → Type 0 where
  feed : {e : List ℕ} → LineBreak (10 ∷ e) e
  return : {e : List ℕ} → begins_byte 10 e ≡ false → LineBreak (13 ∷ e) e
  return_feed : {e : List ℕ} → LineBreak (13 ∷ 10 ∷ e) e
  separator : {e : List ℕ} (a b c : ℕ) → is_separator a b c ≡ true → LineBreak (a ∷ b ∷ c ∷ e) e

-- whether a byte stands behind a backslash for itself, or for a control character: no digit, no `x`, no `u`, no line end
-- (12.9.4, CharacterEscapeSequence)
abbrev pub is_single : List ℕ → Bool
is_single [] = false
is_single (c ∷ e) = not (is_digit c || (c == 120) || (c == 117) || begins_line_end (c ∷ e))

-- `b t n v f r`, or the byte itself
abbrev pub escaped_byte : ℕ → ℕ
escaped_byte c = if c == 98 then 8 else (if c == 116 then 9 else (if c == 110 then 10 else (if c == 118 then 11 else (if c == 102 then 12 else (if c == 114 then 13 else c)))))

abbrev pub begins_digit : List ℕ → Bool
begins_digit [] = false
begins_digit (c ∷ e) = is_digit c

-- what stands behind a backslash (12.9.4, EscapeSequence, as of strict code, and LineContinuation)
pub data Escape : List ℕ → List ℕ → List ℕ → List ℕ → Type 0 where
  single : {u e : List ℕ} (c : ℕ) → is_single (c ∷ e) ≡ true → Escape (escaped_byte c ∷ u) (c ∷ e) u e
  zero_byte : {u e : List ℕ} → begins_digit e ≡ false → Escape (0 ∷ u) (48 ∷ e) u e
  two_hex : {n : ℕ} {u b e : List ℕ} → Hexes 2 0 n b e → Escape (encode_utf8 n ++ u) (120 ∷ b) u e
  unit : {n : ℕ} {u b e : List ℕ} → Unit n b e → is_scalar n ≡ true → Escape (encode_utf8 n ++ u) b u e
  pair : {h l : ℕ} {u b c e : List ℕ} → Unit h b (92 ∷ c) → is_high h ≡ true → Unit l c e → is_low l ≡ true → Escape (encode_utf8 (joined h l) ++ u) b u e
  continued : {u b e : List ℕ} → LineBreak b e → Escape u b u e

-- the quote of a template
abbrev pub is_template : ℕ → Bool
is_template q = q == 96

-- whether a byte stands for itself: no backslash, and in quotes no line feed or carriage return (U+2028 and U+2029 may stand there); in a
-- template no carriage return, which is a line feed there
abbrev pub is_plain : ℕ → ℕ → Bool
is_plain q c = not ((c == 92) || (c == 13) || ((c == 10) && not (is_template q)))

-- one piece of a text behind this quote, a template's being 96
pub data Piece : ℕ → List ℕ → List ℕ → List ℕ → List ℕ → Type 0 where
  plain : {q : ℕ} {u e : List ℕ} (c : ℕ) → is_plain q c ≡ true → Piece q (c ∷ u) (c ∷ e) u e
  escape : {q : ℕ} {v u b e : List ℕ} → Escape v b u e → Piece q v (92 ∷ b) u e
  line_return : {q : ℕ} {u e : List ℕ} → is_template q ≡ true → begins_byte 10 e ≡ false → Piece q (10 ∷ u) (13 ∷ e) u e
  line_return_feed : {q : ℕ} {u e : List ℕ} → is_template q ≡ true → Piece q (10 ∷ u) (13 ∷ 10 ∷ e) u e

-- where a text ends: at its quote, and in a template at `${` too
abbrev pub ends : ℕ → List ℕ → Bool
ends q [] = false
ends q (c ∷ e) = (c == q) || (is_template q && (c == 36) && begins_byte 123 e)

-- pieces to the end
pub data Pieces : ℕ → List ℕ → List ℕ → List ℕ → Type 0 where
  ended : {q : ℕ} {e : List ℕ} → ends q e ≡ true → Pieces q [] e e
  piece : {q : ℕ} {v u b c e : List ℕ} → ends q b ≡ false → Piece q v b u c → Pieces q u c e → Pieces q v b e

abbrev pub is_quote : ℕ → Bool
is_quote q = (q == 34) || (q == 39)

-- a text in quotes (12.9.4)
pub data Quoted : List ℕ → List ℕ → List ℕ → Type 0 where
  quoted : {v b c e : List ℕ} (q : ℕ) → is_quote q ≡ true → Blanks b (q ∷ c) → Pieces q v c (q ∷ e) → Quoted v b e

-- a text of a template (12.9.6): the last one, or one in front of an expression
abbrev pub TemplateText : Bool → List ℕ → List ℕ → List ℕ → Type 0
TemplateText true v b e = Pieces 96 v b (96 ∷ e)
TemplateText false v b e = Pieces 96 v b (36 ∷ 123 ∷ e)
