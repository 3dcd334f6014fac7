-- What is proved of the simplifier's rounds.
use Rattle.std.specs.Prelude.{ℕ, ◌≡◌, Bool, true}
use Rattle.swc_ast.specs.Tree.{Tree}
use Rattle.swc_ast.specs.Valid.{valid}
use Rattle.swc_ast.specs.declared.names.Mark.{Mark}
use Rattle.swc_pass.specs.Chain.{chained}
use Rattle.swc_pass.specs.Pass.{PassSpec, IsLawful}
use Rattle.swc_pass.specs.Repeat.{Rounds, Rounded, Repeats}
use Rattle.swc_expr.specs.Simplified.{simplify_spec}
use Rattle.swc_branch.specs.Removed.{remove_spec}
use Rattle.swc_dce.specs.Shaken.{Told, shake_spec}
use Rattle.swc_optimization.specs.Simplifier.{Round, round_spec, Settled}

-- the three passes in a row, by what they were made with
abbrev pub row_spec : (Mark × Mark) × Told → PassSpec
row_spec s = chained (chained (simplify_spec s.0.0) (remove_spec s.0.1)) (shake_spec s.1)

-- all of them were made with one mark
abbrev pub HasOneMark : (Mark × Mark) × Told → Type 0
HasOneMark s = s.0 ≡ (s.1.mark, s.1.mark)

-- a round is a lawful pass
abbrev pub RoundIsLawful : Type 0
RoundIsLawful = (told : Told) → IsLawful (round_spec told)

-- what the row comes to, again and again, is what rounds come to
abbrev pub RowsAreRounds : Type 0
RowsAreRounds = (s : (Mark × Mark) × Told) (most : ℕ) (t : Tree) (n : ℕ) (reached : Bool) (u : Tree) → HasOneMark s → Repeats (row_spec s) most t n reached u → Rounded (round_spec s.1) most t n reached u

-- where the last round changed nothing, a valid answer is settled
abbrev pub ReachedIsSettled : Type 0
ReachedIsSettled = (told : Told) (t : Tree) (n : ℕ) (u : Tree) → Rounds (Round told) t n true u → valid u ≡ true → Settled told u
