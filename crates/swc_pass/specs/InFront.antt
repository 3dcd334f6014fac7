-- What is proved of the world with answers.
use Rattle.std.specs.Prelude.{ℕ, Bool, List, ◌≡◌}
use Rattle.swc_ast.specs.Tree.{Tree}
use Rattle.swc_ast.specs.Run.{World, LaterCall, Observation, Sees, observe, counted, Same}
use Rattle.swc_pass.specs.Given.{Answers, observe_given, SameGiven}

-- What a module does in the world with answers, a pass that stands behind does too: loads as the pass counts them.
abbrev pub InFront : Type 0
InFront = (a : Answers) (mark : ℕ) (loads : Bool) (t u v : Tree) → SameGiven a mark t u → Same mark loads u v →
    (n d : ℕ) (w : World) (calls : List LaterCall) (o : Observation) → observe_given a mark n d w calls t ≡ Sees o →
    (p : Observation) × (observe mark n d w calls v ≡ Sees p) × (counted loads p ≡ counted loads o)
