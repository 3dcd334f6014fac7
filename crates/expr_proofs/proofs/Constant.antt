-- An expression whose value is known is its effects and then that value.
use Rattle.std.proofs.Common.{◌≡◌, ℕ, Bool, not, List, Some, refl, sym, ap, subst}
use Rattle.swc_ast.specs.declared.UnaryOp.TheVariants.{Bang}
use Rattle.swc_ast.specs.declared.Span.{Span}
use Rattle.swc_ast.specs.Tree.{Unary, Tree, node, ε, ◌⊳◌}
use Rattle.swc_ast.specs.Value.{Value, State, Undefined, Truth, Outcome, Done, Jumps, Outside, Cut, Run, and_then, Context}
use Rattle.swc_ast.specs.Meaning.{◌>>=◌, gives, Caller, act, eval}
use Rattle.swc_ast.specs.Operators.{unary_value}
use Rattle.swc_ast.specs.Call.{call_at}
use Rattle.meaning_proofs.specs.Exact.{Refined, Refines, Exact}
use Rattle.swc_utils.specs.Known.{truth}
use Rattle.swc_utils.specs.Effects.{effects, preserve}
use Rattle.swc_utils.specs.Holds.{Is, Where, Yields}
use Rattle.swc_utils.proofs.Ends.{yields_then, yields_gives}
use Rattle.swc_utils.proofs.Known.{truth_holds}
use Rattle.swc_utils.proofs.Refines.{refines_then, refines_trans}
use Rattle.swc_utils.proofs.RunEffects.{drop, effects_kept}
use Rattle.swc_utils.proofs.Preserved.{preserve_kept}
use Rattle.pass_rules.specs.Leaves.{truth_tree}
use Rattle.pass_proofs.proofs.Truths.{truth_tree_gives}

-- the tree has this value, in each state
abbrev pub Gives : ℕ → Tree → Value → Type 0
Gives mark u w = (n : ℕ) (call : Caller) (c : Context) (s : State) → eval mark n call u c s ≡ Done w s

known_outcome : (w : Value) (r : Outcome Value) → Where (Is w) r → Refined r (and_then (and_then r (λ v. gives Undefined)) (λ v. gives w))
unfolding and_then
known_outcome w (Done v s) h = ap (λ x. Done x s) (sym h)
known_outcome w (Jumps j s) h = refl
known_outcome w Outside h = tt
known_outcome w Cut h = tt

-- the value of a run is known, so it may be dropped
known_value : {m : Run Value} (w : Value) → Yields (Is w) m → Refines m (drop m >>= λ v. gives w)
known_value {m} w h = record { by = λ s. known_outcome w (m s) (h.by s) }

-- a tree of known value
pub constant_exact : (mark : ℕ) (rs : List Span) (t u : Tree) (w : Value) → ((n : ℕ) (call : Caller) (c : Context) → Yields (Is w) (eval mark n call t c)) → Gives mark u w → Exact mark t (preserve rs (effects mark t) u)
constant_exact mark rs t u w ht hu = record {
  by = λ n d c.
      refines_trans (known_value w (ht n (call_at (eval mark n) d) c))
      (refines_trans (refines_then (effects_kept mark n d t c) (λ v. record { by = λ s. subst (λ r. Refined (Done w s) r) (sym (hu n (call_at (eval mark n) d) c s)) refl }))
      (preserve_kept mark n (call_at (eval mark n) d) rs (effects mark t) u c));
}

-- `!` of an expression of known truth
pub not_exact : (mark : ℕ) (ss rs ts : List Span) (a : Tree) (b : Bool) → truth mark a ≡ Some b → Exact mark (node (Unary Bang) ss (a ⊳ ε)) (preserve rs (effects mark (node (Unary Bang) ss (a ⊳ ε))) (truth_tree ts (not b)))
unfolding eval act unary_value
not_exact mark ss rs ts a b h = constant_exact mark rs (node (Unary Bang) ss (a ⊳ ε)) (truth_tree ts (not b)) (Truth (not b)) (λ n call c. yields_then (truth_holds mark n call a b h _) (λ v e. yields_gives _ (ap (λ x. Truth (not x)) e))) (λ n call c s. truth_tree_gives mark n call ts (not b) c s)
