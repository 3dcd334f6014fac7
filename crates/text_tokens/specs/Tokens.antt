-- The tokens of the core but texts (ECMA-262, 12.7 to 12.9.3).
use Rattle.std.specs.Prelude.{ℕ, ◌≡◌, ◌+◌, ◌*◌, ◌-◌, ◌==◌, ◌||◌, ◌&&◌, Bool, true, false, not, nat_le, List, [], ◌∷◌, ◌++◌, codes, bytes_eq}
use Rattle.text_tokens.specs.Lines.{Blanks, begins_wide_blank}

-- an ASCII digit
abbrev pub is_digit : ℕ → Bool
is_digit c = nat_le 48 c && nat_le c 57

-- an ASCII letter, `_` or `$`
abbrev pub is_letter : ℕ → Bool
is_letter c = (nat_le 65 c && nat_le c 90) || (nat_le 97 c && nat_le c 122) || (c == 95) || (c == 36)

-- what a name of the core is made of
abbrev pub is_part : ℕ → Bool
is_part c = is_letter c || is_digit c

-- Whether a name, a word or a number goes on so: also by an escape, and by what is past ASCII and no white space (12.7).
abbrev pub word_goes_on : List ℕ → Bool
word_goes_on [] = false
word_goes_on (c ∷ e) = is_part c || (c == 92) || (nat_le 128 c && not (begins_wide_blank (c ∷ e)))

-- A word, whole. It has no escapes: a reserved word has none (12.7.2), and names with some are not of the core.
pub data Word : List ℕ → List ℕ → List ℕ → Type 0 where
  word : {w b e : List ℕ} → Blanks b (w ++ e) → word_goes_on e ≡ false → Word w b e

abbrev pub all_parts : List ℕ → Bool
all_parts [] = true
all_parts (c ∷ cs) = is_part c && all_parts cs

-- an IdentifierName of ASCII (12.7)
abbrev pub is_name : List ℕ → Bool
is_name [] = false
is_name (c ∷ cs) = is_letter c && all_parts cs

-- the reserved words of strict module code (12.7.2, 13.1.1): those of two to four letters, of five, of six, and the longer ones
abbrev pub is_short_reserved : List ℕ → Bool
is_short_reserved w =
    bytes_eq w (codes "do") || bytes_eq w (codes "if") || bytes_eq w (codes "in") || bytes_eq w (codes "for") || bytes_eq w (codes "let") || bytes_eq w (codes "new")
    || bytes_eq w (codes "try") || bytes_eq w (codes "var") || bytes_eq w (codes "case") || bytes_eq w (codes "else") || bytes_eq w (codes "enum") || bytes_eq w (codes "null")
    || bytes_eq w (codes "this") || bytes_eq w (codes "true") || bytes_eq w (codes "void") || bytes_eq w (codes "with")

abbrev pub is_middle_reserved : List ℕ → Bool
is_middle_reserved w =
    bytes_eq w (codes "await") || bytes_eq w (codes "break") || bytes_eq w (codes "catch") || bytes_eq w (codes "class") || bytes_eq w (codes "const") || bytes_eq w (codes "false")
    || bytes_eq w (codes "super") || bytes_eq w (codes "throw") || bytes_eq w (codes "while") || bytes_eq w (codes "yield") || bytes_eq w (codes "delete") || bytes_eq w (codes "export")
    || bytes_eq w (codes "import") || bytes_eq w (codes "public") || bytes_eq w (codes "return") || bytes_eq w (codes "static") || bytes_eq w (codes "switch") || bytes_eq w (codes "typeof")

abbrev pub is_long_reserved : List ℕ → Bool
is_long_reserved w =
    bytes_eq w (codes "default") || bytes_eq w (codes "extends") || bytes_eq w (codes "finally") || bytes_eq w (codes "package") || bytes_eq w (codes "private") || bytes_eq w (codes "continue")
    || bytes_eq w (codes "debugger") || bytes_eq w (codes "function") || bytes_eq w (codes "interface") || bytes_eq w (codes "protected") || bytes_eq w (codes "implements")
    || bytes_eq w (codes "instanceof")

abbrev pub is_reserved : List ℕ → Bool
is_reserved w = is_short_reserved w || is_middle_reserved w || is_long_reserved w

-- a name, as it stands behind a dot or as a key
pub data Name : List ℕ → List ℕ → List ℕ → Type 0 where
  name : {w b e : List ℕ} → is_name w ≡ true → Word w b e → Name w b e

-- a name that is no reserved word (13.1, Identifier)
pub data Identifier : List ℕ → List ℕ → List ℕ → Type 0 where
  identifier : {w b e : List ℕ} → is_name w ≡ true → is_reserved w ≡ false → Word w b e → Identifier w b e

-- the value of decimal digits in front of which others have this value
abbrev pub decimal : ℕ → List ℕ → ℕ
decimal n [] = n
decimal n (c ∷ cs) = decimal (n * 10 + (c - 48)) cs

-- digits alone
abbrev pub all_digits : List ℕ → Bool
all_digits [] = true
all_digits (c ∷ cs) = is_digit c && all_digits cs

-- whether there is a digit, and no zero in front of others (12.9.3, DecimalIntegerLiteral)
abbrev pub has_no_zero_before : List ℕ → Bool
has_no_zero_before [] = false
has_no_zero_before (c ∷ []) = true
has_no_zero_before (c ∷ d ∷ cs) = not (c == 48)

-- whether a number goes on so: also with a dot
abbrev pub number_goes_on : List ℕ → Bool
number_goes_on [] = false
number_goes_on (c ∷ e) = word_goes_on (c ∷ e) || (c == 46)

-- a whole number in plain decimal digits (12.9.3), small enough to be its own value: up to 2^53 - 1
pub data Number : ℕ → List ℕ → List ℕ → Type 0 where
  number : {b e : List ℕ} (ds : List ℕ) → Blanks b (ds ++ e) → all_digits ds ≡ true → has_no_zero_before ds ≡ true → nat_le (decimal 0 ds) 9007199254740991 ≡ true → number_goes_on e ≡ false → Number (decimal 0 ds) b e

-- `! % & * + - / < = > ^ |`
abbrev pub has_equal : ℕ → Bool
has_equal s = (s == 33) || (s == 37) || (s == 38) || (s == 42) || (s == 43) || (s == 45) || (s == 47) || (s == 60) || (s == 61) || (s == 62) || (s == 94) || (s == 124)

-- `& * + - / < = > ? |`
abbrev pub doubles : ℕ → Bool
doubles s = (s == 38) || (s == 42) || (s == 43) || (s == 45) || (s == 47) || (s == 60) || (s == 61) || (s == 62) || (s == 63) || (s == 124)

-- `!= && ** << == >> ?? ||`
abbrev pub pair_has_equal : ℕ → ℕ → Bool
pair_has_equal s r = ((s == 33) && (r == 61)) || ((s == r) && ((s == 38) || (s == 42) || (s == 60) || (s == 61) || (s == 62) || (s == 63) || (s == 124)))

-- Whether a sign and a byte behind it begin a longer sign, or a comment (12.8): `=` behind what has an assignment or a comparison,
-- a sign behind itself, `=>`, `/*`, `?.`, and `..` of three dots.
abbrev pub lengthens : List ℕ → ℕ → Bool
lengthens (s ∷ []) c = ((c == 61) && has_equal s) || ((c == s) && doubles s) || ((s == 61) && (c == 62)) || ((s == 47) && (c == 42)) || ((s == 63) && (c == 46)) || ((s == 46) && (c == 46))
lengthens (s ∷ r ∷ []) c = ((c == 61) && pair_has_equal s r) || ((s == 62) && (r == 62) && (c == 62)) || ((s == 46) && (r == 46) && (c == 46))
lengthens (s ∷ r ∷ q ∷ []) c = (s == 62) && (q == 62) && (c == 61)
lengthens _ c = false

-- whether a sign goes on so
abbrev pub sign_goes_on : List ℕ → List ℕ → Bool
sign_goes_on s [] = false
sign_goes_on s (c ∷ cs) = lengthens s c

-- a sign, by longest match (12.8)
pub data Sign : List ℕ → List ℕ → List ℕ → Type 0 where
  sign : {s b e : List ℕ} → Blanks b (s ++ e) → sign_goes_on s e ≡ false → Sign s b e
