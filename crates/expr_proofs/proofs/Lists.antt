-- A sequence of one item, and the length of an array literal.
use Rattle.std.proofs.Common.{◌≡◌, ℕ, suc, pos, true, false, not, List, [], ◌∷◌, refl, sym, ap, subst, ◌∙◌, length, codes}
use Rattle.std.proofs.lemmas.Bool.{false≢true, and_from}
use Rattle.swc_ast.specs.declared.Span.{Span}
use Rattle.swc_ast.specs.Tree.{ItemKind, Plain, Spread, Hole, NumLit, Array, Seq, Dot, Tree, node, Forest, ε, ◌⊳◌}
use Rattle.swc_ast.specs.Value.{Num, Items, Values, ∅, ◌▹◌, Context}
use Rattle.swc_ast.specs.Meaning.{gives, get, in_turn, array_items, Caller, act, eval, evals}
use Rattle.swc_ast.specs.Operators.{own_property, values_len, values_append}
use Rattle.swc_ast.specs.Call.{call_at}
use Rattle.meaning_proofs.specs.Exact.{Refines, Exact}
use Rattle.swc_utils.specs.Pure.{has_spread, pure_all}
use Rattle.swc_utils.specs.Holds.{Yields}
use Rattle.swc_utils.proofs.Ends.{keeps_yields, yields_then, yields_gives, yields_leaves, any}
use Rattle.swc_utils.proofs.Pure.{pure_is_still}
use Rattle.swc_utils.proofs.Refines.{refines_same, refines_drop}
use Rattle.pass_proofs.proofs.Refines.{refines_path}

-- a sequence of one
pub single_exact : (mark : ℕ) (ss : List Span) (t : Tree) → Exact mark (node Seq ss (t ⊳ ε)) t
unfolding eval act evals in_turn
single_exact mark ss t = record { by = λ n d c. refines_same (eval mark n (call_at (eval mark n) d) t c) }

-- array literals

items_count : (mark n : ℕ) (call : Caller) (ks : List ItemKind) (ts : Forest) → has_spread ks ≡ false → (c : Context) → Yields (λ vs. values_len vs ≡ length ks) (array_items ks (evals mark n call ts) c)
unfolding evals array_items
items_count mark n call [] ε h c = yields_gives ∅ refl
items_count mark n call [] (t ⊳ ts) h c = yields_leaves
items_count mark n call (Hole ∷ ks) ts h c = yields_leaves
items_count mark n call (Spread ∷ ks) ts h c = absurd (false≢true (sym h))
items_count mark n call (Plain ∷ ks) ε h c = yields_leaves
items_count mark n call (Plain ∷ ks) (t ⊳ ts) h c = yields_then (any (eval mark n call t c)) (λ v _. yields_then {P = λ vs. vs ≡ v ▹ ∅} (yields_gives (v ▹ ∅) refl) (λ vs i. yields_then (items_count mark n call ks ts h c) (λ ws j. yields_gives _ (ap (λ us. values_len (values_append us ws)) i ∙ ap suc j))))

-- the length of an array literal of pure items, none of them a spread; one with a hole leaves the core
pub length_exact : (mark : ℕ) (ks : List ItemKind) (ss is rs : List Span) (ts : Forest) → pure_all mark ts ≡ true → has_spread ks ≡ false → Exact mark (node (Dot (codes "length")) ss (node (Array ks) is ts ⊳ ε)) (node (NumLit (pos (length ks))) rs ε)
unfolding eval act evals get own_property
length_exact mark ks ss is rs ts p h = record { by = λ n d c. refines_drop (keeps_yields (pure_is_still mark n d (node (Array ks) is ts) (and_from (not (has_spread ks)) (pure_all mark ts) (ap not h) p) c) (yields_then (items_count mark n (call_at (eval mark n) d) ks ts h c) (λ vs i. yields_gives {P = λ v. (vs : Values) × (v ≡ Items vs) × (values_len vs ≡ length ks)} (Items vs) (vs, refl, i)))) (λ v i. subst (λ w. Refines (get w (codes "length")) (eval mark n (call_at (eval mark n) d) (node (NumLit (pos (length ks))) rs ε) c)) (sym i.1) (refines_path (ap (λ k. gives (Num (pos k))) i.2))) }
