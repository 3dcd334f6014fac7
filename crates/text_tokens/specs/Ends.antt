-- The end of a statement, with automatic semicolons (ECMA-262, 12.10).
use Rattle.std.specs.Prelude.{ℕ, ◌≡◌, ◌==◌, ◌||◌, ◌&&◌, not, Bool, true, false, List, [], ◌∷◌, codes}
use Rattle.text_tokens.specs.Lines.{Ahead, begins_byte}
use Rattle.text_tokens.specs.Tokens.{word_goes_on}

-- The end of a statement: a semicolon; or nothing, in front of `}`, at the end of the text, or where a line ends in front of a token
-- that can't go on with the statement.
pub data Ends (goes_on : List ℕ → Bool) : List ℕ → List ℕ → Type 0 where
  semicolon : {l : Bool} {b e : List ℕ} → Ahead l b (59 ∷ e) → Ends goes_on b e
  by_brace : {l : Bool} {b e : List ℕ} → Ahead l b (125 ∷ e) → Ends goes_on b b
  by_end : {l : Bool} {b : List ℕ} → Ahead l b [] → Ends goes_on b b
  by_line : {b e : List ℕ} → Ahead true b e → goes_on e ≡ false → Ends goes_on b b

-- whether a text begins with this word, whole
abbrev pub begins_word : List ℕ → List ℕ → Bool
begins_word [] b = not (word_goes_on b)
begins_word (c ∷ cs) [] = false
begins_word (c ∷ cs) (d ∷ ds) = (c == d) && begins_word cs ds

-- `( [ . , = ? : * / % < > & | ^` and the quote of a template
abbrev pub is_joint : ℕ → Bool
is_joint c =
    (c == 40) || (c == 91) || (c == 46) || (c == 44) || (c == 61) || (c == 63) || (c == 58) || (c == 42) || (c == 47) || (c == 37) || (c == 60) || (c == 62)
    || (c == 38) || (c == 124) || (c == 94) || (c == 96)

-- Whether the token in front of which a line ends may go on with the expression before it: one that begins with such a byte, `+` and `-`
-- alone (`++` and `--` don't stand behind a line end, 12.10.1), `!=`, `in` and `instanceof`. Behind the block of an arrow only a comma does.
abbrev pub goes_on : Bool → List ℕ → Bool
goes_on closed [] = false
goes_on true (c ∷ e) = c == 44
goes_on false (c ∷ e) =
    is_joint c || ((c == 43) && not (begins_byte 43 e)) || ((c == 45) && not (begins_byte 45 e)) || ((c == 33) && begins_byte 61 e)
    || begins_word (codes "in") (c ∷ e) || begins_word (codes "instanceof") (c ∷ e)

-- nothing goes on behind `break`, `continue`, a label of theirs, or `return` alone
abbrev pub nothing : List ℕ → Bool
nothing e = false
