-- What several rounds of the tree shaker at once may answer, in each of which nothing but functions and variables of one list goes:
-- of the module's own, or of the body of a wrapper.
use Rattle.std.specs.Prelude.{ℕ, ◌+◌, ◌≡◌, ◌≤◌, ◌<◌, true}
use Rattle.swc_ast.specs.Marks.{mark_number}
use Rattle.swc_ast.specs.Tree.{Tree}
use Rattle.dce_layer_proofs.specs.Frames.{Frame, within}
use Rattle.dce_layer_proofs.specs.Layers.{Layers, items, live, Peels}
use Rattle.swc_dce.specs.Shaken.{Told}

-- A module with its list in layers, and what so many rounds leave of it.
pub record PeelsModule (told : Told) (rounds : ℕ) (t u : Tree) : Type 0 where
  pub top_level : told.top_level ≡ true
  pub frame : Frame
  pub others : Layers
  pub layers : Layers
  pub whole : t ≡ within frame (items layers)
  pub left : u ≡ within frame (live (rounds + 1) layers)
  pub peels : Peels (mark_number told.mark) told.retained rounds frame others layers

-- So many rounds, a given number at most, make a module another; none leave it as it is.
pub record PeeledBy (told : Told) (most : ℕ) (t : Tree) (rounds : ℕ) (u : Tree) : Type 0 where
  pub few : rounds ≤ most
  pub none : rounds ≡ 0 → u ≡ t
  pub some : 0 < rounds → PeelsModule told rounds t u
