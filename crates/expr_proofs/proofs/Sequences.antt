-- A sequence whose front items are literals, bound names or arrays is exactly the sequence of what is left of them.
use Rattle.std.proofs.Common.{◌≡◌, ℕ, Bool, true, false, ◌&&◌, ◌||◌, if◌then◌else◌, List, [], ◌∷◌, ◌++◌, refl, sym, ap, subst, ◌∙◌, ⊎_elim}
use Rattle.std.proofs.lemmas.Bool.{false≢true, and_parts, or_cases, not-true, not_from_false, and_left}
use Rattle.swc_ast.specs.declared.Span.{Span}
use Rattle.swc_ast.specs.Tree.{Array, Read, Seq, Tree, node, Forest, ε, ◌⊳◌}
use Rattle.swc_ast.specs.Value.{Value, Undefined, Run, and_then, Context, Meaning}
use Rattle.swc_ast.specs.Scope.{joined}
use Rattle.swc_ast.specs.Meaning.{◌>>=◌, gives, is_unresolved, Caller, in_turn, run_all, act, eval, evals}
use Rattle.swc_ast.specs.Call.{call_at}
use Rattle.meaning_proofs.specs.Exact.{Refines, Exact}
use Rattle.swc_utils.specs.Pure.{pure, has_spread}
use Rattle.swc_utils.specs.Literals.{is_literal}
use Rattle.swc_utils.specs.Globals.{is_host_name}
use Rattle.swc_utils.proofs.RunEffects.{drop, evals_joined, pure_dropped, run_one, array_dropped}
use Rattle.swc_utils.proofs.Refines.{refines_same, refines_then, refines_trans}
use Rattle.expr_rules.specs.Sequences.{is_bound_name, array_opened, front_item, front_folded}
use Rattle.expr_proofs.proofs.Literal.{literal_is_pure}
use Rattle.pass_proofs.proofs.Refines.{refines_path}
use Rattle.pass_proofs.proofs.Runs.{bind_chain, bind_same}

turn_cons : (m k : Meaning) (ms ks : List Meaning) (c : Context) → in_turn (m ∷ (ms ++ k ∷ ks)) c ≡ (m c >>= λ v. in_turn (ms ++ k ∷ ks) c)
unfolding in_turn
turn_cons m k [] ks c = refl
turn_cons m k (n ∷ ms) ks c = refl

-- what is run in front of a sequence
front_turn : (ms : List Meaning) (k : Meaning) (ks : List Meaning) (c : Context) → in_turn (ms ++ k ∷ ks) c ≡ (run_all ms c >>= λ v. in_turn (k ∷ ks) c)
unfolding run_all and_then
front_turn [] k ks c = refl
front_turn (m ∷ ms) k ks c = turn_cons m k ms ks c ∙ bind_same (m c) (λ v. front_turn ms k ks c) ∙ sym (bind_chain (m c) (λ v. run_all ms c) (λ v. in_turn (k ∷ ks) c))

abbrev pub is_some : Forest → Bool
is_some ε = false
is_some (t ⊳ ts) = true

front_turns : (mark n : ℕ) (call : Caller) (fs gs : Forest) (c : Context) → is_some gs ≡ true → in_turn (evals mark n call (joined fs gs)) c ≡ (run_all (evals mark n call fs) c >>= λ v. in_turn (evals mark n call gs) c)
unfolding evals
front_turns mark n call fs ε c h = absurd (false≢true h)
front_turns mark n call fs (g ⊳ gs) c h = ap (λ ms. in_turn ms c) (evals_joined mark n call fs (g ⊳ gs)) ∙ front_turn (evals mark n call fs) (eval mark n call g) (evals mark n call gs) c

joined_some : (fs gs : Forest) → is_some gs ≡ true → is_some (joined fs gs) ≡ true
joined_some ε gs h = h
joined_some (f ⊳ fs) gs h = refl

pub folded_some : (mark : ℕ) (callee : Bool) (t : Tree) (ts : Forest) → is_some (front_folded mark callee (t ⊳ ts)) ≡ true
folded_some mark callee t ε = refl
folded_some mark callee t (u ⊳ ts) = joined_some (front_item mark callee t) _ (folded_some mark callee u ts)

bound_pure : (mark : ℕ) (t : Tree) → is_bound_name mark t ≡ true → pure mark t ≡ true
bound_pure mark (node (Read x) ss ts) h = not_from_false (is_host_name mark x) (and_left (is_unresolved mark x) _ (not-true (is_unresolved mark x) h))
bound_pure mark _ h = absurd (false≢true h)

module _ (mark n d : ℕ) where
  opened_kept : (t : Tree) (c : Context) → Refines (drop (eval mark n (call_at (eval mark n) d) t c)) (run_all (evals mark n (call_at (eval mark n) d) (array_opened t)) c)
  opened_kept (node (Array ks) ss ts) c = by_spread (has_spread ks) refl
    where
      by_spread : (b : Bool) → has_spread ks ≡ b → Refines (drop (eval mark n (call_at (eval mark n) d) (node (Array ks) ss ts) c)) (run_all (evals mark n (call_at (eval mark n) d) (if b then node (Array ks) ss ts ⊳ ε else ts)) c)
      by_spread true e = run_one mark n d (node (Array ks) ss ts) c
      by_spread false e = array_dropped mark n (call_at (eval mark n) d) ks ss ts e c
  opened_kept t c = run_one mark n d t c

  item_kept : (callee : Bool) (t : Tree) (c : Context) → Refines (drop (eval mark n (call_at (eval mark n) d) t c)) (run_all (evals mark n (call_at (eval mark n) d) (front_item mark callee t)) c)
  unfolding run_all evals
  item_kept callee t c = by_kind (is_literal t || (callee && is_bound_name mark t)) refl
    where
      pure_item : (is_literal t || (callee && is_bound_name mark t)) ≡ true → pure mark t ≡ true
      pure_item h = ⊎_elim (literal_is_pure mark t) (λ e. bound_pure mark t (and_parts callee (is_bound_name mark t) e).1) (or_cases (is_literal t) (callee && is_bound_name mark t) h)

      by_kind : (b : Bool) → (is_literal t || (callee && is_bound_name mark t)) ≡ b → Refines (drop (eval mark n (call_at (eval mark n) d) t c)) (run_all (evals mark n (call_at (eval mark n) d) (if b then ε else array_opened t)) c)
      by_kind true h = pure_dropped mark n d t c (pure_item h)
      by_kind false h = opened_kept t c

  folded_refines : (callee : Bool) (ts : Forest) (c : Context) → Refines (in_turn (evals mark n (call_at (eval mark n) d) ts) c) (in_turn (evals mark n (call_at (eval mark n) d) (front_folded mark callee ts)) c)
  unfolding in_turn evals and_then
  folded_refines callee ε c = refines_same _
  folded_refines callee (t ⊳ ε) c = refines_same _
  folded_refines callee (t ⊳ u ⊳ ts) c =
      subst (Refines (eval mark n (call_at (eval mark n) d) t c >>= λ v. in_turn (evals mark n (call_at (eval mark n) d) (u ⊳ ts)) c)) (sym (front_turns mark n (call_at (eval mark n) d) (front_item mark callee t) (front_folded mark callee (u ⊳ ts)) c (folded_some mark callee u ts)))
      (refines_trans (dropped_first (eval mark n (call_at (eval mark n) d) t c) _) (refines_then (item_kept callee t c) (λ v. folded_refines callee (u ⊳ ts) c)))
    where
      dropped_first : (m k : Run Value) → Refines (m >>= λ v. k) (drop m >>= λ v. k)
      dropped_first m k = refines_path (sym (bind_chain m (λ v. gives Undefined) (λ v. k)))

pub front_folded_exact : (mark : ℕ) (callee : Bool) (ss rs : List Span) (ts : Forest) → Exact mark (node Seq ss ts) (node Seq rs (front_folded mark callee ts))
unfolding eval act
front_folded_exact mark callee ss rs ts = record { by = λ n d c. folded_refines mark n d callee ts c }
