-- A pure expression of known truth, and the tree of a truth.
use Rattle.std.proofs.Common.{◌≡◌, ℕ, Bool, true, List, Some, refl}
use Rattle.swc_ast.specs.declared.Span.{Span}
use Rattle.swc_ast.specs.Tree.{Tree}
use Rattle.swc_ast.specs.Value.{Truth, State, Done, Context}
use Rattle.swc_ast.specs.Meaning.{Caller, act, eval, evals}
use Rattle.swc_ast.specs.Call.{call_at}
use Rattle.swc_utils.specs.Pure.{pure}
use Rattle.swc_utils.specs.Known.{truth}
use Rattle.swc_utils.specs.Holds.{HasTruth, Keeps}
use Rattle.swc_utils.proofs.Ends.{keeps_yields}
use Rattle.swc_utils.proofs.Pure.{pure_is_still}
use Rattle.swc_utils.proofs.Known.{truth_holds}
use Rattle.pass_rules.specs.Leaves.{truth_tree}

pub truth_keeps : (mark n d : ℕ) (t : Tree) (b : Bool) → pure mark t ≡ true → truth mark t ≡ Some b → (c : Context) → Keeps (HasTruth b) (eval mark n (call_at (eval mark n) d) t c)
truth_keeps mark n d t b p h c = keeps_yields (pure_is_still mark n d t p c) (truth_holds mark n (call_at (eval mark n) d) t b h c)

pub truth_tree_gives : (mark n : ℕ) (call : Caller) (rs : List Span) (b : Bool) (c : Context) (s : State) → eval mark n call (truth_tree rs b) c s ≡ Done (Truth b) s
unfolding eval act evals
truth_tree_gives mark n call rs b c s = refl
