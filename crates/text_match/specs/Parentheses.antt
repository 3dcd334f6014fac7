-- Parentheses one inside another.
use Rattle.std.specs.Prelude.{ℕ, zero, suc, ◌≡◌, List, codes}
use Rattle.text_tokens.specs.Tokens.{Sign}

-- one sign more
pub record More (sign : List ℕ) (Before : List ℕ → Type 0) (e : List ℕ) : Type 0 where
  pub place : List ℕ
  pub before : Before place
  pub last : Sign sign place e

-- so many opening ones, one behind another
abbrev pub Opens : ℕ → List ℕ → List ℕ → Type 0
Opens zero b e = b ≡ e
Opens (suc n) b e = More (codes "(") (Opens n b) e

-- so many closing ones
abbrev pub Closes : ℕ → List ℕ → List ℕ → Type 0
Closes zero b e = b ≡ e
Closes (suc n) b e = More (codes ")") (Closes n b) e
