-- Expressions as statements, and `if` with a known test.
use Rattle.std.proofs.Common.{◌≡◌, ℕ, Bool, true, false, if◌then◌else◌, List, [], ◌++◌, Some, refl, sym, ap, ap₂, ◌∙◌, append_assoc}
use Rattle.std.proofs.lemmas.Bool.{and_parts, and_from}
use Rattle.swc_ast.specs.declared.Span.{Span}
use Rattle.swc_ast.specs.Tree.{Name, If, Tree, node, Forest, ε, ◌⊳◌}
use Rattle.swc_ast.specs.Value.{Value, Undefined, Run, and_then, Context, Meaning}
use Rattle.swc_ast.specs.Operators.{truthy}
use Rattle.swc_ast.specs.Scope.{vars_all, declared_by, declared, joined}
use Rattle.swc_ast.specs.Meaning.{◌>>=◌, gives, choice, run_all, act, eval, evals}
use Rattle.swc_ast.specs.Call.{call_at}
use Rattle.swc_utils.specs.Known.{truth}
use Rattle.meaning_proofs.specs.Exact.{Refines}
use Rattle.swc_utils.proofs.RunEffects.{drop}
use Rattle.swc_utils.proofs.Known.{truth_holds}
use Rattle.swc_utils.proofs.Refines.{refines_same, refines_then, refines_trans, refines_assoc}
use Rattle.pass_proofs.proofs.Refines.{refines_path, refines_where}
use Rattle.branch_rules.specs.Statements.{gives_nothing, all_give_nothing, Alone, nothing_alone, left_alone, Chooses, only_arm, no_arm, then_arm, else_arm}
use Rattle.branch_rules.specs.Vars.{Declares}
use Rattle.branch_proofs.proofs.Becomes.{run_behind}
use Rattle.branch_proofs.proofs.Dropped.{dropped_first, then_idle, made_dropped}
use Rattle.branch_proofs.proofs.Ignore.{ignores_run}
use Rattle.branch_proofs.proofs.Vars.{vars_run}

-- forests

pub declared_behind : (ts us : Forest) → declared (joined ts us) ≡ declared ts ++ declared us
declared_behind ε us = refl
declared_behind (t ⊳ ts) us = ap (λ xs. declared_by t ++ xs) (declared_behind ts us) ∙ sym (append_assoc (declared_by t) (declared ts) (declared us))

pub none_declared : (ts us : Forest) → declared ts ≡ [] → declared us ≡ [] → declared (joined ts us) ≡ []
none_declared ts us h i = declared_behind ts us ∙ ap₂ ◌++◌ h i

pub one_declares : (t : Tree) → declared_by t ≡ [] → declared (t ⊳ ε) ≡ []
one_declares t h = ap (λ xs. xs ++ []) h

pub statements_joined : (ts us : Forest) → all_give_nothing ts ≡ true → all_give_nothing us ≡ true → all_give_nothing (joined ts us) ≡ true
statements_joined ε us h i = i
statements_joined (t ⊳ ts) us h i = let p = and_parts (gives_nothing t) (all_give_nothing ts) h in and_from (gives_nothing t) _ p.0 (statements_joined ts us p.1 i)

-- expressions as statements

pub alone_declares : {mark : ℕ} {k : Bool} {a : Tree} {es : Forest} → Alone mark k a es → declared es ≡ []
alone_declares (nothing_alone a r) = refl
alone_declares (left_alone rs a v e r) = refl

pub alone_vars : {mark : ℕ} {k : Bool} {a : Tree} {es : Forest} → Alone mark k a es → vars_all es ≡ []
alone_vars (nothing_alone a r) = refl
alone_vars (left_alone rs a v e r) = refl

pub alone_stands : {mark : ℕ} {k : Bool} {a : Tree} {es : Forest} → Alone mark k a es → all_give_nothing es ≡ true
alone_stands (nothing_alone a r) = refl
alone_stands (left_alone rs a v e r) = refl

module _ (mark n d : ℕ) where
  abbrev does : Tree → Meaning
  does = eval mark n (call_at (eval mark n) d)

  abbrev runs : Forest → Meaning
  runs ts = run_all (evals mark n (call_at (eval mark n) d) ts)

  pub alone_run : {k : Bool} {a : Tree} {es : Forest} → Alone mark k a es → (c : Context) → Refines (drop (does a c)) (runs es c)
  unfolding run_all eval evals act
  alone_run (nothing_alone a r) c = ignores_run mark n d r c
  alone_run (left_alone rs a v e r) c = refines_trans (ignores_run mark n d r c) (refines_path (sym (made_dropped (does v c) (λ w. Undefined))))

  pub behind_alone : {k : Bool} {a : Tree} {es : Forest} (us : Forest) (m : Meaning) (c : Context) → Alone mark k a es → Refines (m c) (runs us c) → Refines (does a c >>= λ v. m c) (runs (joined es us) c)
  behind_alone {a = a} {es = es} us m c h i = refines_trans (refines_path (dropped_first (does a c) (m c))) (refines_trans (refines_then (alone_run h c) (λ v. i)) (refines_path (sym (run_behind mark n (call_at (eval mark n) d) es us c))))

  pub behind_vars : {xs : List Name} {vs : Forest} (us : Forest) (m : Meaning) (c : Context) → Declares xs vs → Refines (m c) (runs us c) → Refines (m c) (runs (joined vs us) c)
  unfolding and_then
  behind_vars {vs = vs} us m c h i = refines_trans i (refines_path (sym (run_behind mark n (call_at (eval mark n) d) vs us c ∙ ap (λ (k : Run Value). k >>= λ v. runs us c) (vars_run mark n (call_at (eval mark n) d) h c))))

  -- the branch of a known test
  branch_run : (t : Tree) (known : Bool) (m k : Meaning) (c : Context) → truth mark t ≡ Some known → Refines (drop (choice (does t) m k c)) (does t c >>= λ v. drop (if known then m c else k c))
  branch_run t known m k c e = refines_assoc (does t c) (λ v. if truthy v then m c else k c) (λ v. gives Undefined) (refines_where (truth_holds mark n (call_at (eval mark n) d) t known e c) (λ v q. refines_path (ap (λ (b : Bool). drop (if b then m c else k c)) q)))

  -- the arm that is chosen, and no other
  pub choose_run : (ss : List Span) (t : Tree) {known : Bool} {arms kept gone : Forest} → Chooses known arms kept gone → truth mark t ≡ Some known → (c : Context) → Refines (drop (does (node If ss (t ⊳ arms)) c)) (does t c >>= λ v. runs kept c)
  unfolding run_all eval evals act and_then
  choose_run ss t (only_arm a) e c = branch_run t true (does a) (λ c. gives Undefined) c e
  choose_run ss t (no_arm a) e c = branch_run t false (does a) (λ c. gives Undefined) c e
  choose_run ss t (then_arm a b) e c = branch_run t true (does a) (does b) c e
  choose_run ss t (else_arm a b) e c = branch_run t false (does a) (does b) c e

  -- a branch of no statement
  pub no_branch : (t : Tree) (c : Context) → Refines (drop (choice (does t) (λ c. gives Undefined) (λ c. gives Undefined) c)) (drop (does t c))
  unfolding and_then
  no_branch t c = then_idle (does t c) _ (λ v. both_idle (truthy v))
    where
      both_idle : (b : Bool) → Refines (drop (if b then gives Undefined else gives Undefined)) (gives Undefined)
      both_idle true = refines_same _
      both_idle false = refines_same _
