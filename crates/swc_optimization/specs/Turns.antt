-- What the simplifier's loop does at a time: a round, or several in which nothing but functions and variables of one list goes.
use Rattle.std.specs.Prelude.{ℕ, ◌<◌, ◌≤◌, Bool}
use Rattle.swc_ast.specs.declared.names.Mark.{Mark}
use Rattle.swc_ast.specs.Marks.{mark_number}
use Rattle.swc_ast.specs.Tree.{Tree}
use Rattle.swc_pass.specs.Repeat.{Rounds}
use Rattle.swc_expr.specs.Simplified.{Simplified}
use Rattle.swc_branch.specs.Removed.{Removed}
use Rattle.swc_dce.specs.Shaken.{Told}
use Rattle.swc_optimization.specs.Simplifier.{Round}

-- what the expression simplifier and then the remover of dead branches answer, by their marks
pub record Cleared (m k : Mark) (t u : Tree) : Type 0 where
  pub simplified : Tree
  pub simplifies : Simplified (mark_number m) t simplified
  pub removes : Removed (mark_number k) simplified u

-- a round at least, and at most so many
pub record Turned (told : Told) (most : ℕ) (t : Tree) (n : ℕ) (reached : Bool) (u : Tree) : Type 0 where
  pub rounds : Rounds (Round told) t n reached u
  pub some : 0 < n
  pub within : n ≤ most
