-- What stands between tokens (ECMA-262, 12.2 to 12.4), and where lines end in it. A text is its bytes, from the place on that is looked
-- at to its end; a relation's last two lists are the place where something begins and the place behind it.
use Rattle.std.specs.Prelude.{ℕ, ◌≡◌, ◌==◌, ◌||◌, ◌&&◌, Bool, true, false, not, nat_le, List, [], ◌∷◌}

-- tab, vertical tab, form feed, space (12.2)
abbrev pub is_space : ℕ → Bool
is_space c = (c == 9) || (c == 11) || (c == 12) || (c == 32)

-- line feed, carriage return (12.3)
abbrev pub is_line_end : ℕ → Bool
is_line_end c = (c == 10) || (c == 13)

-- the bytes of U+FEFF, or of a space separator (12.2): U+1680, U+2000 to U+200A, U+202F, U+205F, U+3000
abbrev pub is_wide_space : ℕ → ℕ → ℕ → Bool
is_wide_space a b c =
    ((a == 239) && (b == 187) && (c == 191)) || ((a == 225) && (b == 154) && (c == 128)) || ((a == 226) && (b == 128) && nat_le 128 c && nat_le c 138)
    || ((a == 226) && (b == 128) && (c == 175)) || ((a == 226) && (b == 129) && (c == 159)) || ((a == 227) && (b == 128) && (c == 128))

-- the bytes of U+2028 or U+2029 (12.3)
abbrev pub is_separator : ℕ → ℕ → ℕ → Bool
is_separator a b c = (a == 226) && (b == 128) && ((c == 168) || (c == 169))

-- whether a text begins so
abbrev pub begins_byte : ℕ → List ℕ → Bool
begins_byte x [] = false
begins_byte x (a ∷ e) = a == x

abbrev pub begins_pair : ℕ → ℕ → List ℕ → Bool
begins_pair x y (a ∷ b ∷ e) = (a == x) && (b == y)
begins_pair x y _ = false

abbrev pub begins_wide_space : List ℕ → Bool
begins_wide_space (a ∷ b ∷ c ∷ e) = is_wide_space a b c
begins_wide_space _ = false

abbrev pub begins_separator : List ℕ → Bool
begins_separator (a ∷ b ∷ c ∷ e) = is_separator a b c
begins_separator _ = false

-- with white space or a line end that is no ASCII: U+00A0, or one of the others
abbrev pub begins_wide_blank : List ℕ → Bool
begins_wide_blank b = begins_pair 194 160 b || begins_wide_space b || begins_separator b

-- with a line end (12.3)
abbrev pub begins_line_end : List ℕ → Bool
begins_line_end [] = false
begins_line_end (c ∷ e) = is_line_end c || begins_separator (c ∷ e)

-- the rest of a line, without its end (12.4, SingleLineCommentChars)
pub data Line : List ℕ → List ℕ → Type 0 where
  text_ends : Line [] []
  line_ends : {e : List ℕ} → begins_line_end e ≡ true → Line e e
  line_goes : {b e : List ℕ} (c : ℕ) → begins_line_end (c ∷ b) ≡ false → Line b e → Line (c ∷ b) e

-- the rest of a comment, to the first `*/`; the truth value says whether a line ends in it (12.4)
pub data Comment : Bool → List ℕ → List ℕ → Type 0 where
  comment_ends : {e : List ℕ} → Comment false (42 ∷ 47 ∷ e) e
  comment_goes : {l : Bool} {b e : List ℕ} (c : ℕ) → begins_pair 42 47 (c ∷ b) ≡ false → Comment l b e → Comment (begins_line_end (c ∷ b) || l) (c ∷ b) e

-- one piece of white space, a line end or a comment; the truth value says whether a line ends in it
pub data Blank : Bool → List ℕ → List ℕ → Type 0 where
  space : {e : List ℕ} (c : ℕ) → is_space c ≡ true → Blank false (c ∷ e) e
  no_break_space : {e : List ℕ} → Blank false (194 ∷ 160 ∷ e) e
  wide_space : {e : List ℕ} (a b c : ℕ) → is_wide_space a b c ≡ true → Blank false (a ∷ b ∷ c ∷ e) e
  line_end : {e : List ℕ} (c : ℕ) → is_line_end c ≡ true → Blank true (c ∷ e) e
  separator : {e : List ℕ} (a b c : ℕ) → is_separator a b c ≡ true → Blank true (a ∷ b ∷ c ∷ e) e
  line_comment : {b e : List ℕ} → Line b e → Blank false (47 ∷ 47 ∷ b) e
  comment : {l : Bool} {b e : List ℕ} → Comment l b e → Blank l (47 ∷ 42 ∷ b) e

-- pieces one behind another; the truth value says whether a line ends in one
pub data Between : Bool → List ℕ → List ℕ → Type 0 where
  none : {b : List ℕ} → Between false b b
  more : {l m : Bool} {b c e : List ℕ} → Between l b c → Blank m c e → Between (l || m) b e

-- the same, whether a line ends in it or not
pub data Blanks : List ℕ → List ℕ → Type 0 where
  blanks : {l : Bool} {b e : List ℕ} → Between l b e → Blanks b e

-- whether no piece begins here: a token does, or the text ends
abbrev pub begins_token : List ℕ → Bool
begins_token [] = true
begins_token (c ∷ e) = not (is_space c || is_line_end c || begins_wide_blank (c ∷ e) || begins_pair 47 47 (c ∷ e) || begins_pair 47 42 (c ∷ e))

-- all that stands in front of the next token. What is said of the token itself, or of whether a line ends in front of it, is said of such
-- a place.
pub data Ahead : Bool → List ℕ → List ℕ → Type 0 where
  ahead : {l : Bool} {b e : List ℕ} → Between l b e → begins_token e ≡ true → Ahead l b e
