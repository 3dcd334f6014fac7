-- Which cases of a switch are run.
use Rattle.std.proofs.Common.{◌≡◌, ℕ, Bool, true, false, not, ◌&&◌, ◌||◌, if◌then◌else◌, List, [], ◌∷◌, ◌++◌, Option, Some, refl, sym, ap, ap₂, ◌∙◌}
use Rattle.std.proofs.lemmas.Bool.{false≢true, true≢false, and_parts, and_from, not-true}
use Rattle.swc_ast.specs.declared.Span.{Span}
use Rattle.swc_ast.specs.Tree.{CaseBody, Tree, node, Forest, ◌⊳◌, label_of}
use Rattle.swc_ast.specs.Value.{Value, Run, and_then, Context, Meaning}
use Rattle.swc_ast.specs.Operators.{prim, strict_equal}
use Rattle.swc_ast.specs.Scope.{joined, declared, case_statements}
use Rattle.swc_ast.specs.Meaning.{◌>>=◌, gives, in_core, run_all, in_list_scope, at_break, Case, case_test, cases_of, bodies_from, default_bodies, chosen, selected, switch, act, eval, evals}
use Rattle.swc_ast.specs.Call.{call_at}
use Rattle.swc_utils.specs.Pure.{pure}
use Rattle.pass_rules.specs.Values.{value_of}
use Rattle.meaning_proofs.specs.Exact.{Refines}
use Rattle.swc_utils.specs.Holds.{Is, Keeps}
use Rattle.swc_utils.proofs.Ends.{keeps_then, keeps_gives, core_keeps, keeps_yields}
use Rattle.swc_utils.proofs.Pure.{pure_is_still}
use Rattle.swc_utils.proofs.Refines.{refines_same, refines_drop, refines_trans}
use Rattle.pass_proofs.proofs.Refines.{refines_path}
use Rattle.pass_proofs.proofs.Values.{value_holds}
use Rattle.branch_rules.specs.Switches.{breaking, Clause, kinds_of, trees_of, bodies_of, switch_tree, has_test, have_tests, is_discriminant, pure_tests, no_default, Passed, none_passed, unequal, over_default}
use Rattle.branch_rules.specs.Statements.{is_absent}
use Rattle.branch_rules.specs.Jumps.{escapes}
use Rattle.swc_ast.specs.Labels.{is_expression}
use Rattle.branch_proofs.proofs.Becomes.{run_behind}
use Rattle.branch_proofs.proofs.Statements.{scope_of}

-- neither the discriminant nor a test is a list of a case
abbrev pub is_case : Tree → Bool
is_case (node CaseBody ss cs) = true
is_case _ = false

abbrev pub no_case : List Clause → Bool
no_case [] = true
no_case (k ∷ ks) = not (is_case k.test) && no_case ks

expression_no_case : (t : Tree) → is_expression (label_of t) ≡ true → not (is_case t) ≡ true
expression_no_case (node CaseBody ss cs) h = absurd (false≢true h)
expression_no_case (node _ ss cs) h = refl

absent_no_case : (t : Tree) → is_absent t ≡ true → not (is_case t) ≡ true
absent_no_case (node CaseBody ss cs) h = absurd (false≢true h)
absent_no_case (node _ ss cs) h = refl

test_no_case : (b : Bool) (t : Tree) → (if b then is_absent t else is_expression (label_of t)) ≡ true → not (is_case t) ≡ true
test_no_case true t h = absent_no_case t h
test_no_case false t h = expression_no_case t h

pub tests_no_case : (ks : List Clause) → have_tests ks ≡ true → no_case ks ≡ true
tests_no_case [] h = refl
tests_no_case (k ∷ ks) h = let p = and_parts (has_test k) (have_tests ks) h in and_from (not (is_case k.test)) (no_case ks) (test_no_case k.is_default k.test p.0) (tests_no_case ks p.1)

pub no_case_given : (d : Tree) → is_discriminant d ≡ true → is_case d ≡ false
no_case_given d h = not-true (is_case d) (expression_no_case d (and_parts (is_expression (label_of d)) (not (escapes breaking d)) h).0)

pub tests_behind : (fs ks : List Clause) → have_tests (fs ++ ks) ≡ true → have_tests ks ≡ true
tests_behind [] ks h = h
tests_behind (k ∷ fs) ks h = tests_behind fs ks (and_parts (has_test k) (have_tests (fs ++ ks)) h).1

skip : (t : Tree) (ts : Forest) → is_case t ≡ false → case_statements (t ⊳ ts) ≡ case_statements ts
skip (node CaseBody ss cs) ts h = absurd (true≢false h)
skip (node _ ss cs) ts h = refl

statements_are : (ks : List Clause) → no_case ks ≡ true → case_statements (trees_of ks) ≡ bodies_of ks
statements_are [] h = refl
statements_are (k ∷ ks) h = let p = and_parts (not (is_case k.test)) (no_case ks) h in skip k.test _ (not-true (is_case k.test) p.0) ∙ ap (joined k.body) (statements_are ks p.1)

module _ (mark n d : ℕ) where
  abbrev pub does : Tree → Meaning
  does = eval mark n (call_at (eval mark n) d)

  abbrev pub runs : Forest → Meaning
  runs ts = run_all (evals mark n (call_at (eval mark n) d) ts)

  abbrev pub cases : List Clause → List Case
  cases [] = []
  cases (k ∷ ks) = (case_test k.is_default (eval mark n (call_at (eval mark n) d) k.test), run_all (evals mark n (call_at (eval mark n) d) k.body)) ∷ cases ks

  pub cases_are : (ks : List Clause) → cases_of (kinds_of ks) (evals mark n (call_at (eval mark n) d) (trees_of ks)) ≡ cases ks
  unfolding eval evals act
  cases_are [] = refl
  cases_are (k ∷ ks) = ap (λ rest. (case_test k.is_default (does k.test), runs k.body) ∷ rest) (cases_are ks)

  -- the bodies of the selected case and of those behind it, one after the other
  abbrev pub inner : List Clause → Value → Meaning
  inner ks v e = selected (cases ks) (default_bodies (cases ks)) v e >>= λ bs. run_all bs e

  pub switch_runs : (ss : List Span) (t : Tree) (ks : List Clause) (c : Context) → is_case t ≡ false → no_case ks ≡ true → does (switch_tree ss t ks) c ≡ (does t c >>= λ v. scope_of (declared (bodies_of ks)) (λ e s. at_break (inner ks v e s)) c)
  unfolding eval evals act switch in_list_scope
  switch_runs ss t ks c h g =
      ap₂ (λ (cs : List Case) (ts : Forest). does t c >>= λ v. scope_of (declared ts) (λ e s. at_break ((selected cs (default_bodies cs) v e >>= λ bs. run_all bs e) s)) c) (cases_are ks) (skip t (trees_of ks) h ∙ statements_are ks g)

  -- the bodies as one list
  pub bodies_run : (ks : List Clause) (e : Context) → run_all (bodies_from (cases ks)) e ≡ runs (bodies_of ks) e
  unfolding run_all evals
  bodies_run [] e = refl
  bodies_run (k ∷ ks) e = ap (λ (m : Run Value). runs k.body e >>= λ v. m) (bodies_run ks e) ∙ sym (run_behind mark n (call_at (eval mark n) d) k.body (bodies_of ks) e)

  -- where `default` stands

  default_step : (b : Bool) (m k : Meaning) (rest : List Case) → b ≡ false → default_bodies ((case_test b m, k) ∷ rest) ≡ default_bodies rest
  default_step true m k rest h = cc
  default_step false m k rest h = refl

  default_here : (b : Bool) (m k : Meaning) (rest : List Case) → b ≡ true → default_bodies ((case_test b m, k) ∷ rest) ≡ k ∷ bodies_from rest
  default_here true m k rest h = refl
  default_here false m k rest h = absurd (false≢true h)

  pub default_behind : (fs ks : List Clause) → no_default fs ≡ true → default_bodies (cases (fs ++ ks)) ≡ default_bodies (cases ks)
  default_behind [] ks h = refl
  default_behind (k ∷ fs) ks h = let p = and_parts (not k.is_default) (no_default fs) h in default_step k.is_default _ _ _ (not-true k.is_default p.0) ∙ default_behind fs ks p.1

  pub default_at : (fs : List Clause) (k : Clause) (ks : List Clause) → no_default fs ≡ true → k.is_default ≡ true → default_bodies (cases (fs ++ k ∷ ks)) ≡ bodies_from (cases (k ∷ ks))
  default_at fs k ks h g = default_behind fs (k ∷ ks) h ∙ default_here k.is_default _ _ _ g

  pub no_default_bodies : (ks : List Clause) → no_default ks ≡ true → default_bodies (cases ks) ≡ []
  no_default_bodies [] h = refl
  no_default_bodies (k ∷ ks) h = let p = and_parts (not k.is_default) (no_default ks) h in default_step k.is_default _ _ _ (not-true k.is_default p.0) ∙ no_default_bodies ks p.1

  -- whichever case is selected

  abbrev pub Suffixes : (List Meaning → Type 0) → List Clause → Type 0
  Suffixes P [] = Unit {0}
  Suffixes P (k ∷ ks) = P (run_all (evals mark n (call_at (eval mark n) d) k.body) ∷ bodies_from (cases ks)) × Suffixes P ks

  chosen_holds : (P : List Meaning → Type 0) (b : Bool) (ms : List Meaning) (rest : Run (List Meaning)) → P ms → Keeps P rest → Keeps P (chosen b ms rest)
  chosen_holds P true ms rest h i = keeps_gives ms h
  chosen_holds P false ms rest h i = i

  selected_step : (P : List Meaning → Type 0) (b : Bool) (t : Tree) (m : Meaning) (rest : List Case) (others : List Meaning) (v : Value) (c : Context) → (b || pure mark t) ≡ true → P (m ∷ bodies_from rest) → Keeps P (selected rest others v c) → Keeps P (selected ((case_test b (does t), m) ∷ rest) others v c)
  unfolding selected
  selected_step P true t m rest others v c p h i = i
  selected_step P false t m rest others v c p h i = keeps_then (pure_is_still mark n d t p c) (λ w _. keeps_then (core_keeps (strict_equal (prim v) (prim w))) (λ same _. chosen_holds P same (m ∷ bodies_from rest) _ h i))

  pub selected_holds : (P : List Meaning → Type 0) (ks : List Clause) (others : List Meaning) (v : Value) (c : Context) → pure_tests mark ks ≡ true → P others → Suffixes P ks → Keeps P (selected (cases ks) others v c)
  unfolding selected
  selected_holds P [] others v c p h hs = keeps_gives others h
  selected_holds P (k ∷ ks) others v c p h hs =
      let q = and_parts (k.is_default || pure mark k.test) (pure_tests mark ks) p in
      selected_step P k.is_default k.test (runs k.body) (cases ks) others v c q.0 hs.0 (selected_holds P ks others v c q.1 h hs.1)

  -- cases that are passed

  pub known_keeps : (t : Tree) (w : Value) (c : Context) → pure mark t ≡ true → value_of mark t ≡ Some w → Keeps (Is w) (does t c)
  known_keeps t w c p e = keeps_yields (pure_is_still mark n d t p c) (value_holds mark n (call_at (eval mark n) d) t w c e)

  pub unequal_is : (o : Option Bool) (ms : List Meaning) (rest : Run (List Meaning)) → o ≡ Some false → (in_core o >>= λ same. chosen same ms rest) ≡ rest
  unfolding and_then
  unequal_is o ms rest e = ap (λ (p : Option Bool). in_core p >>= λ same. chosen same ms rest) e

  pub equal_is : (o : Option Bool) (ms : List Meaning) (rest : Run (List Meaning)) → o ≡ Some true → (in_core o >>= λ same. chosen same ms rest) ≡ gives ms
  unfolding and_then
  equal_is o ms rest e = ap (λ (p : Option Bool). in_core p >>= λ same. chosen same ms rest) e

  unequal_step : (b : Bool) (t : Tree) (v w : Value) (m : Meaning) (rest : List Case) (others : List Meaning) (c : Context) → b ≡ false → pure mark t ≡ true → value_of mark t ≡ Some w → strict_equal (prim v) (prim w) ≡ Some false → Refines (selected ((case_test b (does t), m) ∷ rest) others v c) (selected rest others v c)
  unfolding selected
  unequal_step true t v w m rest others c h p e q = absurd (true≢false h)
  unequal_step false t v w m rest others c h p e q = refines_drop (known_keeps t w c p e) (λ x r. refines_path (unequal_is (strict_equal (prim v) (prim x)) (m ∷ bodies_from rest) (selected rest others v c) (ap (λ y. strict_equal (prim v) (prim y)) r ∙ q)))

  pub over_step : (b : Bool) (t : Tree) (v : Value) (m : Meaning) (rest : List Case) (others : List Meaning) (c : Context) → b ≡ true → selected ((case_test b (does t), m) ∷ rest) others v c ≡ selected rest others v c
  unfolding selected
  over_step true t v m rest others c h = refl
  over_step false t v m rest others c h = absurd (false≢true h)

  pub passed_front : {v : Value} {fs : List Clause} → Passed mark v fs → (ks : List Clause) (others : List Meaning) (c : Context) → Refines (selected (cases (fs ++ ks)) others v c) (selected (cases ks) others v c)
  passed_front none_passed ks others c = refines_same _
  passed_front {v} (unequal k w {ks = fs} h p e q r) ks others c = refines_trans (unequal_step k.is_default k.test v w (runs k.body) (cases (fs ++ ks)) others c h p e.known q) (passed_front r ks others c)
  passed_front {v} (over_default k {ks = fs} h r) ks others c = refines_trans (refines_path (over_step k.is_default k.test v (runs k.body) (cases (fs ++ ks)) others c h)) (passed_front r ks others c)

  pub passed_all : {v : Value} {fs : List Clause} → Passed mark v fs → (others : List Meaning) (c : Context) → Refines (selected (cases fs) others v c) (gives others)
  unfolding selected
  passed_all none_passed others c = refines_same _
  passed_all {v} (unequal k w {ks = fs} h p e q r) others c = refines_trans (unequal_step k.is_default k.test v w (runs k.body) (cases fs) others c h p e.known q) (passed_all r others c)
  passed_all {v} (over_default k {ks = fs} h r) others c = refines_trans (refines_path (over_step k.is_default k.test v (runs k.body) (cases fs) others c h)) (passed_all r others c)

  pub equal_step : (b : Bool) (t : Tree) (v w : Value) (m : Meaning) (rest : List Case) (others : List Meaning) (c : Context) → b ≡ false → pure mark t ≡ true → value_of mark t ≡ Some w → strict_equal (prim v) (prim w) ≡ Some true → Refines (selected ((case_test b (does t), m) ∷ rest) others v c) (gives (m ∷ bodies_from rest))
  unfolding selected
  equal_step true t v w m rest others c h p e q = absurd (true≢false h)
  equal_step false t v w m rest others c h p e q = refines_drop (known_keeps t w c p e) (λ x r. refines_path (equal_is (strict_equal (prim v) (prim x)) (m ∷ bodies_from rest) (selected rest others v c) (ap (λ y. strict_equal (prim v) (prim y)) r ∙ q)))
