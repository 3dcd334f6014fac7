-- Each step of a switch: to run it is to run what it becomes.
use Rattle.std.proofs.Common.{◌≡◌, ℕ, Bool, true, false, List, [], ◌∷◌, ◌++◌, Some, None, refl, sym, ap, subst, ◌∙◌}
use Rattle.std.proofs.lemmas.Bool.{false≢true, and_parts}
use Rattle.swc_ast.specs.declared.Span.{Span}
use Rattle.swc_ast.specs.Tree.{Name, Break, Block, Tree, node, Forest, ε, ◌⊳◌}
use Rattle.swc_ast.specs.Value.{Value, Undefined, State, Outcome, Done, Jumps, Outside, Cut, Run, and_then, Context, Meaning}
use Rattle.swc_ast.specs.Scope.{joined, declared, Declared, is_found}
use Rattle.swc_ast.specs.Meaning.{◌>>=◌, gives, in_scope, run_all, in_list_scope, at_break, bodies_from, default_bodies, selected, act, eval, evals}
use Rattle.swc_ast.specs.Call.{call_at}
use Rattle.swc_utils.specs.Pure.{pure, no_trees}
use Rattle.pass_rules.specs.Values.{value_of}
use Rattle.meaning_proofs.specs.Exact.{Refined, Refines}
use Rattle.swc_utils.specs.Holds.{Quiet, Keeps}
use Rattle.swc_utils.proofs.RunEffects.{drop}
use Rattle.swc_utils.proofs.Refines.{refines_same, refines_then, refines_drop, refines_trans, refines_assoc}
use Rattle.pass_proofs.proofs.Refines.{refines_path, refines_where}
use Rattle.pass_proofs.proofs.Values.{value_holds}
use Rattle.meaning_proofs.proofs.ListRules.{in_nothing}
use Rattle.branch_proofs.proofs.Becoming.{Becomes}
use Rattle.branch_rules.specs.Switches.{is_discriminant, Clause, bodies_of, switch_tree, have_tests, pure_tests, no_default, all_empty, starts_with_break, nothing_runs, Passed, Unbroken, SwitchStep, nothing_left, only_default, only_default_apart, selected_case, selected_default, none_selected, leading_go}
use Rattle.branch_rules.specs.Statements.{Alone}
use Rattle.branch_rules.specs.Vars.{Declares}
use Rattle.branch_proofs.proofs.Becomes.{run_behind}
use Rattle.branch_proofs.proofs.Dropped.{then_idle}
use Rattle.branch_proofs.proofs.Loops.{given, refined_by}
use Rattle.branch_proofs.proofs.Places.{discarded, open_block}
use Rattle.branch_proofs.proofs.Declared.{all_declare}
use Rattle.branch_proofs.proofs.Selected.{is_case, no_case, tests_no_case, no_case_given, tests_behind, cases, inner, switch_runs, bodies_run, default_behind, default_at, no_default_bodies, Suffixes, selected_holds, known_keeps, passed_front, passed_all, equal_step}
use Rattle.branch_proofs.proofs.Statements.{scope_of, dropped_same, block_inside, vars_first}
use Rattle.branch_proofs.proofs.Tests.{alone_run, behind_alone}
use Rattle.branch_proofs.proofs.Unbroken.{unbroken_run}
use Rattle.branch_proofs.proofs.Undefined.{run_all_nothing}
use Rattle.branch_proofs.proofs.Vars.{vars_run}
use mathlib.Core.Path.{fun_ext}

-- scopes and ends

pub scope_refines : (ps : List Declared) {m k : Meaning} → ((e : Context) → Refines (m e) (k e)) → (c : Context) → Refines (scope_of ps m c) (scope_of ps k c)
unfolding in_scope
scope_refines ps h c = record { by = λ s. (h _).by _ }

scope_nothing : (m : Meaning) (c : Context) → scope_of [] m c ≡ m c
scope_nothing m c = fun_ext (λ s. in_nothing (λ x. is_found {A = Rattle.swc_ast.specs.Scope.Declaration} x []) _ m c s (λ x. refl))

pub break_refines : {m k : Run Value} → Refines m k → Refines (λ s. at_break (m s)) (λ s. at_break (k s))
unfolding at_break
break_refines {m} {k} h = record { by = λ s. refined_by at_break (m s) (k s) refl refl (h.by s) }

-- bodies are chosen, without doing anything, of which something is known
chosen_break : (P : List Meaning → Type 0) (s : State) (o : Outcome (List Meaning)) (k : List Meaning → Run Value) (h : Run Value) → Quiet P s o → ((bs : List Meaning) → P bs → Refines (λ t. at_break (k bs t)) h) → Refined (at_break (and_then o k)) (h s)
unfolding and_then at_break
chosen_break P s (Done bs t) k h q f = subst (λ u. Refined (at_break (k bs u)) (h s)) (sym q.0) ((f bs q.1).by s)
chosen_break P s (Jumps j t) k h q f = absurd q
chosen_break P s Outside k h q f = tt
chosen_break P s Cut k h q f = tt

chosen_refines : (P : List Meaning → Type 0) {m : Run (List Meaning)} (k : List Meaning → Run Value) {h : Run Value} → Keeps P m → ((bs : List Meaning) → P bs → Refines (λ t. at_break (k bs t)) h) → Refines (λ s. at_break ((m >>= k) s)) h
chosen_refines P {m} k {h} q f = record { by = λ s. chosen_break P s (m s) k h (q.by s) f }

empty_joined : (ts us : Forest) → no_trees ts ≡ true → joined ts us ≡ us
empty_joined ε us h = refl
empty_joined (t ⊳ ts) us h = absurd (false≢true h)

joined_end : (ts : Forest) → joined ts ε ≡ ts
joined_end ε = refl
joined_end (t ⊳ ts) = ap (λ us. t ⊳ us) (joined_end ts)

pub only_body : (fs : List Clause) (k : Clause) → all_empty fs ≡ true → bodies_of (fs ++ k ∷ []) ≡ k.body
only_body [] k h = joined_end k.body
only_body (j ∷ fs) k h = let p = and_parts (no_trees j.body) (all_empty fs) h in empty_joined j.body _ p.0 ∙ only_body fs k p.1

module _ (mark n d : ℕ) where
  abbrev does : Tree → Meaning
  does = eval mark n (call_at (eval mark n) d)

  abbrev runs : Forest → Meaning
  runs ts = run_all (evals mark n (call_at (eval mark n) d) ts)

  block_is : (us : List Span) (ts : Forest) (c : Context) → does (node Block us ts) c ≡ scope_of (declared ts) (runs ts) c
  unfolding eval act in_list_scope
  block_is us ts c = refl

  -- nothing is run

  abbrev Idly : List Meaning → Type 0
  Idly bs = (e : Context) (s : State) → at_break (run_all bs e s) ≡ Done Undefined s

  idle_first : (ts : Forest) (ms : List Meaning) → starts_with_break ts ≡ true → Idly ms → Idly (runs ts ∷ ms)
  unfolding run_all eval evals act at_break and_then
  idle_first ε ms h i e s = i e s
  idle_first (node (Break None) ss ε ⊳ ts) ms h i e s = refl
  idle_first (t ⊳ ts) ms h i e s = absurd (false≢true h)

  idle_bodies : (ks : List Clause) → nothing_runs ks ≡ true → Idly (bodies_from (cases mark n d ks))
  unfolding run_all at_break
  idle_bodies [] h e s = refl
  idle_bodies (k ∷ ks) h e s = let p = and_parts (starts_with_break k.body) (nothing_runs ks) h in idle_first k.body _ p.0 (idle_bodies ks p.1) e s

  idle_default : (ks : List Clause) → nothing_runs ks ≡ true → Idly (default_bodies (cases mark n d ks))
  unfolding run_all at_break
  idle_default [] h e s = refl
  idle_default (k ∷ ks) h e s = let p = and_parts (starts_with_break k.body) (nothing_runs ks) h in by_kind k.is_default (idle_first k.body _ p.0 (idle_bodies ks p.1)) (idle_default ks p.1) e s
    where
      by_kind : (b : Bool) → Idly (runs k.body ∷ bodies_from (cases mark n d ks)) → Idly (default_bodies (cases mark n d ks)) → Idly (default_bodies ((Rattle.swc_ast.specs.Meaning.case_test b (does k.test), runs k.body) ∷ cases mark n d ks))
      by_kind true h i = h
      by_kind false h i = i

  idle_suffixes : (ks : List Clause) → nothing_runs ks ≡ true → Suffixes mark n d Idly ks
  idle_suffixes [] h = tt
  idle_suffixes (k ∷ ks) h = let p = and_parts (starts_with_break k.body) (nothing_runs ks) h in (idle_first k.body _ p.0 (idle_bodies ks p.1), idle_suffixes ks p.1)

  idle_inner : (ks : List Clause) (v : Value) (e : Context) → pure_tests mark ks ≡ true → nothing_runs ks ≡ true → Refines (λ s. at_break (inner mark n d ks v e s)) (gives Undefined)
  idle_inner ks v e p h = chosen_refines Idly (λ bs. run_all bs e) (selected_holds mark n d Idly ks (default_bodies (cases mark n d ks)) v e p (idle_default ks h) (idle_suffixes ks h)) (λ bs i. refines_path (fun_ext (λ s. i e s)))

  -- the body of `default` is run

  abbrev Only : Forest → List Meaning → Type 0
  Only ts bs = (e : Context) → run_all bs e ≡ runs ts e

  only_from : (fs : List Clause) (k : Clause) → all_empty fs ≡ true → Only k.body (bodies_from (cases mark n d (fs ++ k ∷ [])))
  only_from fs k h e = bodies_run mark n d (fs ++ k ∷ []) e ∙ ap (λ ts. runs ts e) (only_body fs k h)

  only_suffixes : (fs : List Clause) (k : Clause) → all_empty fs ≡ true → Suffixes mark n d (Only k.body) (fs ++ k ∷ [])
  only_suffixes [] k h = (only_from [] k h, tt)
  only_suffixes (j ∷ fs) k h = (only_from (j ∷ fs) k h, only_suffixes fs k (and_parts (no_trees j.body) (all_empty fs) h).1)

  only_inner : (fs : List Clause) (k : Clause) (v : Value) (e : Context) → pure_tests mark (fs ++ k ∷ []) ≡ true → no_default fs ≡ true → all_empty fs ≡ true → k.is_default ≡ true → Refines (λ s. at_break (inner mark n d (fs ++ k ∷ []) v e s)) (λ s. at_break (runs k.body e s))
  only_inner fs k v e p g h i =
      chosen_refines (Only k.body) (λ bs. run_all bs e)
      (selected_holds mark n d (Only k.body) (fs ++ k ∷ []) (default_bodies (cases mark n d (fs ++ k ∷ []))) v e p (subst (Only k.body) (sym (default_at mark n d fs k [] g i)) (only_from [] k refl)) (only_suffixes fs k h))
      (λ bs q. refines_path (ap (λ (m : Run Value). λ s. at_break (m s)) (q e)))

  -- known bodies are run

  given_inner : (ks ls : List Clause) (v : Value) (e : Context) → Refines (selected (cases mark n d ks) (default_bodies (cases mark n d ks)) v e) (gives (bodies_from (cases mark n d ls))) → Refines (inner mark n d ks v e) (runs (bodies_of ls) e)
  given_inner ks ls v e h = refines_trans (refines_then h (λ bs. refines_same (run_all bs e))) (refines_path (given (bodies_from (cases mark n d ls)) (λ bs. run_all bs e) ∙ bodies_run mark n d ls e))

  -- what is left of the discriminant, and nothing else
  left_alone : {k : Bool} {t : Tree} {es vs : Forest} {xs : List Name} {m : Value → Run Value} (c : Context) → Alone mark k t es → Declares xs vs → ((v : Value) → Refines (m v) (gives Undefined)) → Refines (drop (does t c >>= m)) (runs (joined es vs) c)
  unfolding and_then
  left_alone {t = t} {es = es} {vs = vs} {m = m} c h q i = refines_trans (then_idle (does t c) m (λ v. dropped_same (i v))) (refines_trans (alone_run mark n d h c) (refines_path (sym (run_behind mark n (call_at (eval mark n) d) es vs c ∙ ap (λ (k : Run Value). runs es c >>= λ v. k) (vars_run mark n (call_at (eval mark n) d) q c) ∙ discarded (run_all_nothing (evals mark n (call_at (eval mark n) d) es) c)))))

  -- a block of what was selected
  block_left : (us : List Span) {ts ws gs : Forest} (ps : List Declared) (m : Meaning) (c : Context) → ((e : Context) → Refines (m e) (λ s. at_break (runs ts e s))) → Unbroken ts ws gs → declared ws ≡ ps → Refines (scope_of ps m c) (does (node Block us ws) c)
  block_left us {ts} {ws} ps m c h u e = refines_trans (scope_refines ps (λ x. refines_trans (h x) (unbroken_run mark n d u x)) c) (refines_path (ap (λ (qs : List Declared). scope_of qs (runs ws) c) (sym e) ∙ sym (block_is us ws c)))

  -- behind a value that is known
  known_run : (t : Tree) (v : Value) (c : Context) (m : Value → Run Value) {h : Run Value} → pure mark t ≡ true → value_of mark t ≡ Some v → Refines (drop (m v)) h → Refines (drop (does t c >>= m)) h
  known_run t v c m {h} p e r = refines_assoc (does t c) m (λ x. gives Undefined) (refines_drop (known_keeps mark n d t v c p e) (λ x q. refines_trans (refines_path (ap (λ y. drop (m y)) q)) r))

  known_left : {m : Run Value} {xs : List Name} {vs : Forest} (c : Context) → Declares xs vs → Refines m (gives Undefined) → Refines (drop m) (runs vs c)
  unfolding and_then
  known_left c q h = refines_trans (dropped_same h) (refines_path (sym (vars_run mark n (call_at (eval mark n) d) q c)))

  abbrev whole : List Clause → Value → Meaning
  whole ks v c = scope_of (declared (bodies_of ks)) (λ e s. at_break (inner mark n d ks v e s)) c

  none_ended : (ks : List Clause) (v : Value) (e : Context) → Refines (selected (cases mark n d ks) (default_bodies (cases mark n d ks)) v e) (gives []) → Refines (inner mark n d ks v e) (gives Undefined)
  unfolding run_all
  none_ended ks v e h = refines_trans (refines_then h (λ bs. refines_same (run_all bs e))) (refines_path (given [] (λ bs. run_all bs e)))

  none_inner : (ks : List Clause) (v : Value) (e : Context) → Passed mark v ks → no_default ks ≡ true → Refines (λ s. at_break (inner mark n d ks v e s)) (gives Undefined)
  unfolding at_break
  none_inner ks v e r i = break_refines (none_ended ks v e (refines_trans (passed_all mark n d r _ e) (refines_path (ap (λ (bs : List Meaning). gives bs) (no_default_bodies mark n d ks i)))))

  leading_inner : (fs ks : List Clause) (v : Value) (c : Context) → Passed mark v fs → no_default fs ≡ true → declared (bodies_of ks) ≡ declared (bodies_of (fs ++ ks)) → Refines (whole (fs ++ ks) v c) (whole ks v c)
  leading_inner fs ks v c r i e =
      refines_trans (scope_refines (declared (bodies_of (fs ++ ks))) (λ x. break_refines (refines_then (refines_trans (passed_front mark n d r ks _ x) (refines_path (ap (λ (bs : List Meaning). selected (cases mark n d ks) bs v x) (default_behind mark n d fs ks i)))) (λ bs. refines_same (run_all bs x)))) c)
      (refines_path (ap (λ (ps : List Declared). scope_of ps (λ x s. at_break (inner mark n d ks v x s)) c) (sym e)))

  -- a block of the bodies that a known value selects
  selected_run : (ss us : List Span) (t : Tree) (v : Value) (all ks : List Clause) {xs : List Name} {ts gs vs : Forest} (c : Context) → is_case t ≡ false → no_case all ≡ true → pure mark t ≡ true → value_of mark t ≡ Some v
      → ((e : Context) → Refines (selected (cases mark n d all) (default_bodies (cases mark n d all)) v e) (gives (bodies_from (cases mark n d ks))))
      → Unbroken (bodies_of ks) ts gs → declared ts ≡ declared (bodies_of all) → Declares xs vs → Refines (drop (does (switch_tree ss t all) c)) (drop (does (node Block us (joined vs ts)) c))
  selected_run ss us t v all ks {ts = ts} {vs = vs} c h g p e f u w q =
      refines_trans (refines_path (ap drop (switch_runs mark n d ss t all c h g)))
      (refines_trans (known_run t v c (λ x. whole all x c) p e (dropped_same (block_left us {ts = bodies_of ks} {ws = ts} (declared (bodies_of all)) (λ x s. at_break (inner mark n d all v x s)) c (λ x. break_refines (given_inner all ks v x (f x))) u w)))
      (refines_path (ap drop (block_inside mark n d us us ts c q))))

  -- statements that declare nothing need no block
  open_run : (us : List Span) (ts : Forest) (c : Context) → declared ts ≡ [] → drop (does (node Block us ts) c) ≡ runs ts c
  open_run us ts c h = ap drop (open_block mark n (call_at (eval mark n) d) us ts h c) ∙ discarded (run_all_nothing (evals mark n (call_at (eval mark n) d) ts) c)

  default_run : {b : Bool} (ss us : List Span) (t : Tree) (fs : List Clause) (k : Clause) {es ts gs : Forest} (c : Context) → is_discriminant t ≡ true → have_tests (fs ++ k ∷ []) ≡ true → pure_tests mark (fs ++ k ∷ []) ≡ true → no_default fs ≡ true → all_empty fs ≡ true → k.is_default ≡ true → Alone mark b t es → Unbroken k.body ts gs → declared ts ≡ declared k.body → (m : Forest) → Refines (drop (does (node Block us ts) c)) (runs m c) → Refines (drop (does (switch_tree ss t (fs ++ k ∷ [])) c)) (runs (joined es m) c)
  default_run ss us t fs k {es} {ts} c h g p i j w a u q m f =
      refines_trans (refines_path (ap drop (switch_runs mark n d ss t (fs ++ k ∷ []) c (no_case_given t h) (tests_no_case (fs ++ k ∷ []) g))))
      (refines_assoc (does t c) (λ v. whole (fs ++ k ∷ []) v c) (λ x. gives Undefined)
      (refines_trans (refines_then (refines_same (does t c)) (λ v. dropped_same (block_left us {ts = k.body} {ws = ts} (declared (bodies_of (fs ++ k ∷ []))) (λ x s. at_break (inner mark n d (fs ++ k ∷ []) v x s)) c (λ x. only_inner fs k v x p i j w) u (q ∙ ap declared (sym (only_body fs k j))))))
      (behind_alone mark n d m (λ x. drop (does (node Block us ts) x)) c a f)))

  pub switch_run : {t : Tree} {us : Forest} → SwitchStep mark t us → (c : Context) → Refines (drop (does t c)) (runs us c)
  unfolding run_all evals
  switch_run (nothing_left ss t ks h g p r e a q) c =
      refines_trans (refines_path (ap drop (switch_runs mark n d ss t ks c (no_case_given t h) (tests_no_case ks g))))
      (left_alone c a q (λ v. refines_trans (refines_path (ap (λ (ps : List Declared). scope_of ps (λ x s. at_break (inner mark n d ks v x s)) c) e ∙ scope_nothing (λ x s. at_break (inner mark n d ks v x s)) c)) (idle_inner ks v c p r)))
  switch_run (only_default ss t fs k {es} {ts} h g p i j w a u x q z l y) c = default_run ss [] t fs k c h g p i j w a u q ts (refines_path (open_run [] ts c (all_declare ts l)))
  switch_run (only_default_apart ss us t fs k {es} {ts} h g p i j w a u x q z) c = default_run ss us t fs k c h g p i j w a u q (node Block us ts ⊳ ε) (refines_same _)
  switch_run (selected_case ss us t v w fs k ks h g p e r i j l m u q o z) c = selected_run ss us t v (fs ++ k ∷ ks) (k ∷ ks) c (no_case_given t h) (tests_no_case (fs ++ k ∷ ks) g) p e.known (λ x. refines_trans (passed_front mark n d r (k ∷ ks) _ x) (equal_step mark n d k.is_default k.test v w (runs k.body) (cases mark n d ks) _ x i j l.known m)) u q o
  switch_run (selected_default ss us t v fs k ks h g p e r i j u q o z) c = selected_run ss us t v (fs ++ k ∷ ks) (k ∷ ks) c (no_case_given t h) (tests_no_case (fs ++ k ∷ ks) g) p e.known (λ x. refines_trans (passed_all mark n d r _ x) (refines_path (ap (λ (bs : List Meaning). gives bs) (default_at mark n d fs k ks i j)))) u q o
  switch_run (none_selected ss t v ks h g p e r i f q) c =
      refines_trans (refines_path (ap drop (switch_runs mark n d ss t ks c (no_case_given t h) (tests_no_case ks g))))
      (known_run t v c (λ x. whole ks x c) p e.known (known_left c q (refines_trans (refines_path (ap (λ (ps : List Declared). scope_of ps (λ x s. at_break (inner mark n d ks v x s)) c) f ∙ scope_nothing (λ x s. at_break (inner mark n d ks v x s)) c)) (none_inner ks v c r i))))
  switch_run (leading_go ss us rs t v fs ks {vs} h g e r i q o z) c =
      refines_trans (dropped_same (refines_trans (refines_path (switch_runs mark n d ss t (fs ++ ks) c (no_case_given t h) (tests_no_case (fs ++ ks) g)))
      (refines_trans (refines_where (value_holds mark n (call_at (eval mark n) d) t v c e.known) (λ x p. refines_trans (refines_path (ap (λ y. whole (fs ++ ks) y c) p)) (refines_trans (leading_inner fs ks v c r i q) (refines_path (ap (λ y. whole ks y c) (sym p))))))
      (refines_path (sym (switch_runs mark n d us t ks c (no_case_given t h) (tests_no_case ks (tests_behind fs ks g))))))))
      (refines_path (vars_first mark n d (switch_tree us t ks ⊳ ε) c o))

pub switch_becomes : {mark : ℕ} {t : Tree} {us : Forest} → SwitchStep mark t us → Becomes mark (t ⊳ ε) us
unfolding run_all evals
switch_becomes {mark} h = record { by = λ n d c. switch_run mark n d h c }
