-- When the run of a second module shows what the run of a first one shows, under an evaluation of its own, off the loads
-- of modules that are ignored.
use Rattle.std.specs.Prelude.{ℕ, ◌≡◌, Bool, true, false, if◌then◌else◌, List, [], ◌∷◌}
use Rattle.swc_ast.specs.Tree.{Text, Tree}
use Rattle.swc_ast.specs.Value.{Event, Load}
use Rattle.swc_ast.specs.Meaning.{eval}
use Rattle.swc_ast.specs.Run.{World, LaterCall, Observation, Sees, observe_by}
use Rattle.meaning_proofs.specs.Exact.{Evaluation}

abbrev pub is_ignored : (Text → Bool) → Event → Bool
is_ignored ignores (Load t) = ignores t
is_ignored ignores _ = false

-- the events that count
abbrev pub counting : (Text → Bool) → List Event → List Event
counting ignores [] = []
counting ignores (e ∷ es) = if is_ignored ignores e then counting ignores es else e ∷ counting ignores es

abbrev pub counted_but : (Text → Bool) → Observation → Observation
counted_but ignores o = record o { events = counting ignores o.events }

-- the modules whose loads count
abbrev pub heeded : (Text → Bool) → List Text → List Text
heeded ignores [] = []
heeded ignores (t ∷ ts) = if ignores t then heeded ignores ts else t ∷ heeded ignores ts

-- all loads are ignored, or none
abbrev pub ignoring : Bool → Text → Bool
ignoring true t = false
ignoring false t = true

-- Whatever the world, the bounds and the later calls: where the first, as it is evaluated, ends inside the core, so does
-- the second, and the same is seen.
unfoldable pub SameIn : Evaluation → ℕ → (Text → Bool) → Tree → Tree → Type 0
SameIn does mark ignores t u =
    (n d : ℕ) (w : World) (calls : List LaterCall) (o : Observation) → observe_by (does n) d w calls t ≡ Sees o →
    (p : Observation) × (observe_by (eval mark n) d w calls u ≡ Sees p) × (counted_but ignores p ≡ counted_but ignores o)
