-- Rounds in which the expression simplifier and the remover of dead branches rest.
use Rattle.std.specs.Prelude.{ℕ, false}
use Rattle.swc_ast.specs.Marks.{mark_number}
use Rattle.swc_ast.specs.Tree.{Tree}
use Rattle.static_proofs.specs.Shaped.{IsShaped}
use Rattle.swc_pass.specs.Repeat.{Rounds}
use Rattle.swc_expr.specs.Simplified.{Simplified}
use Rattle.swc_branch.specs.Removed.{Removed}
use Rattle.swc_dce.specs.Peeling.{PeelsModule}
use Rattle.swc_dce.specs.Shaken.{Told, Shaken}

-- what both answer as it is
pub record AtRest (told : Told) (t : Tree) : Type 0 where
  pub simplifies : Simplified (mark_number told.mark) t t
  pub removes : Removed (mark_number told.mark) t t

-- a round in which they do, and the tree shaker answers anything
pub record Rested (told : Told) (t u : Tree) : Type 0 where
  pub rests : AtRest told t
  pub shakes : Shaken told t u

-- what goes in layers goes in so many of these rounds
abbrev pub LayersAreRounds : Type 0
LayersAreRounds = (told : Told) (n : ℕ) (t u : Tree) → PeelsModule told n t u → IsShaped t → AtRest told t → Rounds (Rested told) t n false u

-- and both rest on what is left
abbrev pub LayersLeaveRest : Type 0
LayersLeaveRest = (told : Told) (n : ℕ) (t u : Tree) → PeelsModule told n t u → IsShaped t → AtRest told t → AtRest told u
