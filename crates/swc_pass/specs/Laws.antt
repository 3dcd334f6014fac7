-- What is proved of passes in a row and of rounds.
use Rattle.std.specs.Prelude.{ℕ, ◌+◌, ◌≡◌, ◌<◌, ◌≤◌, Bool, true}
use Rattle.swc_ast.specs.Tree.{Tree}
use Rattle.swc_ast.specs.Weight.{weight}
use Rattle.swc_pass.specs.Pass.{PassSpec, IsLawful}
use Rattle.swc_pass.specs.Chain.{MarksAgree, chained}
use Rattle.swc_pass.specs.Repeat.{Repeats, repeated}

-- two lawful passes that tell no different marks are one lawful pass
abbrev pub RowIsLawful : PassSpec → PassSpec → Type 0
RowIsLawful p q = MarksAgree p.mark q.mark → IsLawful p → IsLawful q → IsLawful (chained p q)

-- the rounds of a lawful pass, as many as may be, are one lawful pass
abbrev pub RoundsAreLawful : PassSpec → Type 0
RoundsAreLawful p = IsLawful p → (most : ℕ) → IsLawful (repeated p most)

-- where each change is lighter and more rounds may be than the input weighs, one of them changes nothing
abbrev pub RoundsComeToEnd : PassSpec → Type 0
RoundsComeToEnd p = IsLawful p → p.lowers ≡ true → (most : ℕ) (t : Tree) (n : ℕ) (reached : Bool) (u : Tree) → weight t < most → Repeats p most t n reached u → reached ≡ true

-- where each change is lighter, the rounds are at most the weight of the input, and one
abbrev pub RoundsAreFew : PassSpec → Type 0
RoundsAreFew p = IsLawful p → p.lowers ≡ true → (most : ℕ) (t : Tree) (n : ℕ) (reached : Bool) (u : Tree) → Repeats p most t n reached u → n ≤ weight t + 1
