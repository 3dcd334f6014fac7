-- The punctuators of ECMA-262 (12.8, Punctuator, DivPunctuator, RightBracePunctuator), and what begins a comment (12.4): which go on in
-- which way.
use Rattle.std.specs.Prelude.{ℕ, ◌≡◌, ◌==◌, ◌||◌, ◌&&◌, Bool, true, false, not, List, [], ◌∷◌, ◌++◌, codes}
use Rattle.text_tokens.specs.Tokens.{lengthens}

-- the punctuators, `?.` among them
abbrev pub punctuators : List (List ℕ)
punctuators =
    codes "?." ∷ codes "{" ∷ codes "(" ∷ codes ")" ∷ codes "[" ∷ codes "]" ∷ codes "." ∷ codes "..." ∷ codes ";" ∷ codes "," ∷ codes "<" ∷ codes ">" ∷ codes "<=" ∷ codes ">="
    ∷ codes "==" ∷ codes "!=" ∷ codes "===" ∷ codes "!==" ∷ codes "+" ∷ codes "-" ∷ codes "*" ∷ codes "%" ∷ codes "**" ∷ codes "++" ∷ codes "--" ∷ codes "<<" ∷ codes ">>" ∷ codes ">>>"
    ∷ codes "&" ∷ codes "|" ∷ codes "^" ∷ codes "!" ∷ codes "~" ∷ codes "&&" ∷ codes "||" ∷ codes "??" ∷ codes "?" ∷ codes ":" ∷ codes "=" ∷ codes "+=" ∷ codes "-=" ∷ codes "*=" ∷ codes "%="
    ∷ codes "**=" ∷ codes "<<=" ∷ codes ">>=" ∷ codes ">>>=" ∷ codes "&=" ∷ codes "|=" ∷ codes "^=" ∷ codes "&&=" ∷ codes "||=" ∷ codes "??=" ∷ codes "=>" ∷ codes "/" ∷ codes "/=" ∷ codes "}" ∷ []

-- and those with what begins a comment
abbrev pub beginnings : List (List ℕ)
beginnings = codes "//" ∷ codes "/*" ∷ punctuators

-- the byte behind a sign, where another sign goes on with it
abbrev pub goes_on_rightly : List ℕ → List ℕ → List ℕ → Bool
goes_on_rightly s [] [] = true
goes_on_rightly s [] (c ∷ cs) = lengthens s c
goes_on_rightly s (p ∷ ps) [] = true
goes_on_rightly s (p ∷ ps) (c ∷ cs) = not (p == c) || goes_on_rightly s ps cs

-- each of these goes on with the sign by a byte that is told to lengthen it, if it goes on with it at all
abbrev pub each_is_told : List ℕ → List (List ℕ) → Bool
each_is_told s [] = true
each_is_told s (q ∷ qs) = goes_on_rightly s s q && each_is_told s qs

abbrev pub all_are_told : List (List ℕ) → List (List ℕ) → Bool
all_are_told [] qs = true
all_are_told (s ∷ ss) qs = each_is_told s qs && all_are_told ss qs

-- whether a text begins so
abbrev pub begins : List ℕ → List ℕ → Bool
begins [] b = true
begins (c ∷ cs) [] = false
begins (c ∷ cs) (d ∷ ds) = (c == d) && begins cs ds

abbrev pub one_begins : List ℕ → List (List ℕ) → Bool
one_begins s [] = false
one_begins s (q ∷ qs) = begins s q || one_begins s qs

-- what is told to lengthen a sign does: with it some sign begins, or a comment, or two dots
abbrev pub told_rightly : List ℕ → List ℕ → Bool
told_rightly s [] = true
told_rightly s (c ∷ cs) = (not (lengthens s c) || one_begins (s ++ (c ∷ [])) beginnings) && told_rightly s cs

abbrev pub all_told_rightly : List (List ℕ) → List ℕ → Bool
all_told_rightly [] cs = true
all_told_rightly (s ∷ ss) cs = told_rightly s cs && all_told_rightly ss cs

-- the bytes that a punctuator or a comment has
abbrev pub sign_bytes : List ℕ
sign_bytes = codes "?.{()[];,<>=!+-*%&|^~:/}"
