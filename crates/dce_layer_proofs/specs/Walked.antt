-- What the shaker does with items in layers, round by round.
use Rattle.std.specs.Prelude.{ℕ, ◌+◌, ◌<◌, ◌≤◌, Bool, true, false, List}
use Rattle.swc_ast.specs.Tree.{Text, Tree}
use Rattle.tree_walk.specs.Walks.{Whole}
use Rattle.dce_rules.specs.Shakes.{Shaker, shake_pass}
use Rattle.dce_rules.specs.Uses.{free_to_go}
use Rattle.dce_layer_proofs.specs.Frames.{Frame, within}
use Rattle.dce_layer_proofs.specs.Layers.{Layers, live, Peels}

-- the module in front of a round
abbrev pub module_at : Frame → Layers → ℕ → Tree
module_at F ps r = within F (live r ps)

-- what the shaker knows of a module: each name goes that is free to; assignments to unread names stay
abbrev pub shaker_of : ℕ → Bool → List Text → Tree → Shaker
shaker_of mark drops retained t = record { mark = mark; free = λ x. free_to_go retained t x; unread = λ x. false; drops_imports = drops }

-- In each round the layer goes, and nothing else.
abbrev pub LayersGo : Type 0
LayersGo = (mark : ℕ) (drops : Bool) (retained : List Text) (F : Frame) (others ps : Layers) (rounds r : ℕ) → 0 < r → r ≤ rounds → Peels mark retained rounds F others ps → Whole (shake_pass (shaker_of mark drops retained (module_at F ps r))) true (module_at F ps r) (module_at F ps (r + 1))
