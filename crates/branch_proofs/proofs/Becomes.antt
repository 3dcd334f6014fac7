-- Laws of trees that become others.
use Rattle.std.proofs.Common.{◌≡◌, ℕ, List, [], ◌∷◌, ◌++◌, refl, sym, ap, subst, ◌∙◌}
use Rattle.swc_ast.specs.Tree.{Tree, Forest, ε, ◌⊳◌}
use Rattle.swc_ast.specs.Value.{and_then, Context, Meaning}
use Rattle.swc_ast.specs.Scope.{joined}
use Rattle.swc_ast.specs.Meaning.{◌>>=◌, Caller, eval, evals, run_all}
use Rattle.swc_ast.specs.Call.{each_of, call_at}
use Rattle.meaning_proofs.specs.Exact.{Refines, ListExact}
use Rattle.swc_utils.proofs.Refines.{refines_same, refines_then, refines_trans}
use Rattle.pass_proofs.proofs.Refines.{refines_path}
use Rattle.pass_proofs.proofs.Runs.{bind_chain, bind_same}
use Rattle.swc_utils.proofs.RunEffects.{evals_joined}
use Rattle.meaning_proofs.proofs.Trees.{evals_are}
use Rattle.branch_proofs.proofs.Becoming.{Becomes}

-- one list behind the other
pub run_append : (ms ks : List Meaning) (c : Context) → run_all (ms ++ ks) c ≡ (run_all ms c >>= λ v. run_all ks c)
unfolding run_all and_then
run_append [] ks c = refl
run_append (m ∷ ms) ks c = bind_same (m c) (λ v. run_append ms ks c) ∙ sym (bind_chain (m c) (λ v. run_all ms c) (λ v. run_all ks c))

pub run_behind : (mark n : ℕ) (call : Caller) (ts us : Forest) (c : Context) → run_all (evals mark n call (joined ts us)) c ≡ (run_all (evals mark n call ts) c >>= λ v. run_all (evals mark n call us) c)
run_behind mark n call ts us c = ap (λ ms. run_all ms c) (evals_joined mark n call ts us) ∙ run_append (evals mark n call ts) (evals mark n call us) c

pub becomes_same : (mark : ℕ) (ts : Forest) → Becomes mark ts ts
becomes_same mark ts = record { by = λ n d c. refines_same _ }

pub becomes_trans : {mark : ℕ} {ts us vs : Forest} → Becomes mark ts us → Becomes mark us vs → Becomes mark ts vs
becomes_trans h i = record { by = λ n d c. refines_trans (h.by n d c) (i.by n d c) }

pub becomes_joined : (mark : ℕ) (ts us vs ws : Forest) → Becomes mark ts us → Becomes mark vs ws → Becomes mark (joined ts vs) (joined us ws)
becomes_joined mark ts us vs ws h i = record {
  by = λ n d c. refines_trans (refines_path (run_behind mark n (call_at (eval mark n) d) ts vs c)) (refines_trans (refines_then (h.by n d c) (λ v. i.by n d c)) (refines_path (sym (run_behind mark n (call_at (eval mark n) d) us ws c))));
}

-- a tree that becomes others, and what stands behind it
pub becomes_first : (mark : ℕ) (t : Tree) (us vs ws : Forest) → Becomes mark (t ⊳ ε) us → Becomes mark vs ws → Becomes mark (t ⊳ vs) (joined us ws)
becomes_first mark t us vs ws h i = becomes_joined mark (t ⊳ ε) us vs ws h i

-- a list of statements becomes another
pub becomes_list : {mark : ℕ} {ts us : Forest} → Becomes mark ts us → ListExact mark ts us
becomes_list {mark} {ts} {us} h = record {
  by = λ n d c. (subst (λ ms. Refines (run_all ms c) (run_all (each_of (eval mark n (call_at (eval mark n) d)) us) c)) (evals_are mark n (call_at (eval mark n) d) ts) (subst (λ ms. Refines (run_all (evals mark n (call_at (eval mark n) d) ts) c) (run_all ms c)) (evals_are mark n (call_at (eval mark n) d) us) (h.by n d c)));
}
