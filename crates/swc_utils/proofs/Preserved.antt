-- Effects in front of a value do what the expressions whose effects they are and then the value do.
use Rattle.std.proofs.Common.{◌≡◌, ℕ, List, [], ◌∷◌, ◌++◌, refl, sym, subst}
use Rattle.swc_ast.specs.declared.Span.{Span}
use Rattle.swc_ast.specs.Tree.{Tree, Forest, ε, ◌⊳◌}
use Rattle.swc_ast.specs.Value.{and_then, Context, Meaning}
use Rattle.swc_ast.specs.Meaning.{◌>>=◌, Caller, in_turn, run_all, act, eval, evals}
use Rattle.swc_ast.specs.Call.{call_at}
use Rattle.meaning_proofs.specs.Exact.{Refines}
use Rattle.swc_utils.specs.Effects.{effects_all, preserve, Preserves}
use Rattle.swc_utils.proofs.Refines.{refines_same, refines_then, refines_trans, refines_assoc}
use Rattle.swc_utils.proofs.RunEffects.{evals_joined, all_kept}

turn_cons : (m k : Meaning) (ms : List Meaning) (c : Context) → in_turn (m ∷ (ms ++ k ∷ [])) c ≡ (m c >>= λ v. in_turn (ms ++ k ∷ []) c)
unfolding in_turn
turn_cons m k [] c = refl
turn_cons m k (n ∷ ms) c = refl

turn_after : (ms : List Meaning) (k : Meaning) (c : Context) → Refines (run_all ms c >>= λ v. k c) (in_turn (ms ++ k ∷ []) c)
unfolding in_turn run_all and_then
turn_after [] k c = refines_same (k c)
turn_after (m ∷ ms) k c = subst (Refines _) (sym (turn_cons m k ms c)) (refines_assoc (m c) (λ v. run_all ms c) (λ v. k c) (refines_then (refines_same (m c)) (λ v. turn_after ms k c)))

pub preserve_kept : (mark n : ℕ) (call : Caller) (rs : List Span) (fs : Forest) (u : Tree) (c : Context) → Refines (run_all (evals mark n call fs) c >>= λ v. eval mark n call u c) (eval mark n call (preserve rs fs u) c)
unfolding run_all and_then eval act
preserve_kept mark n call rs ε u c = refines_same _
preserve_kept mark n call rs (f ⊳ fs) u c = subst (λ ms. Refines (run_all (evals mark n call (f ⊳ fs)) c >>= λ v. eval mark n call u c) (in_turn ms c)) (sym (evals_joined mark n call (f ⊳ fs) (u ⊳ ε))) (turn_after (evals mark n call (f ⊳ fs)) (eval mark n call u) c)

pub preserved : (mark : ℕ) (rs : List Span) (ts : Forest) (t u : Tree) → u ≡ preserve rs (effects_all mark ts) t → Preserves mark ts t u
preserved mark rs ts t u is = record {
  by = λ n d c.
      subst (λ x. Refines (run_all (evals mark n (call_at (eval mark n) d) ts) c >>= λ v. eval mark n (call_at (eval mark n) d) t c) (eval mark n (call_at (eval mark n) d) x c)) (sym is)
      (refines_trans (refines_then (all_kept mark n d ts c) (λ v. refines_same _)) (preserve_kept mark n (call_at (eval mark n) d) rs (effects_all mark ts) t c));
}
