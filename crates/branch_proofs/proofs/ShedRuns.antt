-- A `switch` whose unreached cases lose their `let` and `const` runs as before, in the same scope.
use Rattle.std.proofs.Common.{◌≡◌, ℕ, Bool, true, false, not, ◌||◌, if◌then◌else◌, List, [], ◌∷◌, ◌++◌, Option, Some, None, refl, sym, ap, subst, ◌∙◌, append-nil}
use Rattle.std.proofs.lemmas.Bool.{and_parts, and_from, true≢false, false≢true}
use Rattle.std.proofs.lemmas.Option.{none-some, same_Some}
use Rattle.swc_ast.specs.declared.Span.{Span}
use Rattle.swc_ast.specs.Tree.{NumLit, StrLit, BoolLit, NullLit, Read, Switch, Tree, node, Forest, ε, ◌⊳◌}
use Rattle.swc_ast.specs.Value.{Value, Undefined, NaN, Reads, is_data, State, Outcome, Done, Jumps, Outside, Cut, Run, and_then, Context, Meaning}
use Rattle.swc_ast.specs.Operators.{prim, strict_equal, to_number, to_text}
use Rattle.swc_ast.specs.Scope.{joined}
use Rattle.swc_ast.specs.Meaning.{◌>>=◌, gives, leaves, is_unresolved, read, read_bound, run_all, at_break, Case, case_test, cases_of, bodies_from, default_bodies, selected, act, eval, evals, ask}
use Rattle.swc_ast.specs.Call.{call_at}
use Rattle.swc_ast.specs.Weight.{is_stopper}
use Rattle.meaning_proofs.specs.Exact.{cases_at}
use Rattle.meaning_proofs.proofs.Trees.{evals_are}
use Rattle.swc_utils.specs.Globals.{name_value}
use Rattle.swc_utils.specs.Holds.{Is, Quiet, Keeps}
use Rattle.swc_utils.specs.Known.{known_truth, of_value}
use Rattle.swc_utils.specs.Pure.{pure}
use Rattle.swc_utils.specs.declared.answers.ValueType.TheVariants.{Undefined as UndefinedType, Num as NumberType}
use Rattle.swc_utils.proofs.Chains.{joined_assoc}
use Rattle.pass_rules.specs.Values.{number_of, value_by_type, value_of}
use Rattle.walk_proofs.specs.Dying.{Gives, leaf_gives, OpenRight, cases_shed}
use Rattle.branch_rules.specs.Switches.{Clause, kinds_of, trees_of, bodies_of, switch_tree, no_default, is_fixed, FixedValue, Passed, none_passed, unequal, over_default, Selects, by_test, by_default, unlet, has_stopper, Sheds, no_case, case_stays, case_sheds, Ends, all_run, some_run, ShedStep, leading_shed, selected_shed}
use Rattle.branch_proofs.proofs.Selected.{cases, inner, cases_are, bodies_run, default_behind, default_at, known_keeps, unequal_is, equal_is, over_step}
use Rattle.branch_proofs.proofs.Unbroken.{stopped_run}
use Rattle.branch_proofs.proofs.Unlet.{sheds_cases, sheds_kinds, sheds_itself, sheds_both}

-- a literal, `undefined` and `NaN` give their values

name_done : (host m : Run Value) (u a b g : Bool) (w : Value) (s : State) → (if u then (if a then Some Undefined else (if b then Some NaN else None)) else None) ≡ Some w → (if u then (if a then gives Undefined else (if b then gives NaN else (if g then leaves else host))) else m) s ≡ Done w s
name_done host m false a b g w s h = absurd (none-some w h)
name_done host m true true b g w s h = ap (λ z. Done z s) (same_Some _ _ h)
name_done host m true false true g w s h = ap (λ z. Done z s) (same_Some _ _ h)
name_done host m true false false g w s h = absurd (none-some w h)

name_data : (u a b : Bool) (w : Value) → (if u then (if a then Some Undefined else (if b then Some NaN else None)) else None) ≡ Some w → is_data w ≡ true
name_data false a b w h = absurd (none-some w h)
name_data true true b w h = ap is_data (sym (same_Some _ _ h))
name_data true false true w h = ap is_data (sym (same_Some _ _ h))
name_data true false false w h = absurd (none-some w h)

-- a name of a known value stands for it
name_known : (u a b i : Bool) (v : Value) (o : Option Value) → o ≡ (if u then (if a then Some Undefined else (if b then Some NaN else None)) else None) → value_by_type (if u then (if a then Some UndefinedType else (if b then Some NumberType else (if i then Some NumberType else None))) else None) (known_truth o) (of_value to_number o) (of_value to_text o) ≡ Some v → o ≡ Some v
name_known false a b i v o e h = absurd (none-some v h)
name_known true true b i v o e h = e ∙ h
name_known true false true i v o e h = e ∙ (subst (λ z. number_of (of_value to_number z) ≡ Some v) e h)
name_known true false false true v o e h = absurd (none-some v (subst (λ z. number_of (of_value to_number z) ≡ Some v) e h))
name_known true false false false v o e h = absurd (none-some v h)

fixed_gives : (mark : ℕ) (t : Tree) (v : Value) → is_fixed t ≡ true → value_of mark t ≡ Some v → Gives mark v t
unfolding eval evals act read
fixed_gives mark (node (NumLit z) ss ε) v h e = subst (λ w. Gives mark w (node (NumLit z) ss ε)) (same_Some _ _ e) (leaf_gives (NumLit z) refl refl (λ n d c s. refl))
fixed_gives mark (node (StrLit t) ss ε) v h e = subst (λ w. Gives mark w (node (StrLit t) ss ε)) (same_Some _ _ e) (leaf_gives (StrLit t) refl refl (λ n d c s. refl))
fixed_gives mark (node (BoolLit b) ss ε) v h e = subst (λ w. Gives mark w (node (BoolLit b) ss ε)) (same_Some _ _ e) (leaf_gives (BoolLit b) refl refl (λ n d c s. refl))
fixed_gives mark (node NullLit ss ε) v h e = subst (λ w. Gives mark w (node NullLit ss ε)) (same_Some _ _ e) (leaf_gives NullLit refl refl (λ n d c s. refl))
fixed_gives mark (node (Read x) ss ε) v h e =
    let k = name_known (is_unresolved mark x) _ _ _ v (name_value mark x) refl e in
    leaf_gives (Read x) refl (name_data (is_unresolved mark x) _ _ v k) (λ n d c s. name_done (ask (Reads x.text)) (read_bound x (c.env x)) (is_unresolved mark x) _ _ _ v s k)
fixed_gives mark t v h e = absurd (false≢true h)

-- statements of cases, one behind another

bodies_joined : (ks ls : List Clause) → bodies_of (ks ++ ls) ≡ joined (bodies_of ks) (bodies_of ls)
bodies_joined [] ls = refl
bodies_joined (k ∷ ks) ls = ap (joined k.body) (bodies_joined ks ls) ∙ sym (joined_assoc k.body (bodies_of ks) (bodies_of ls))

named_alike : {b : Bool} {ks ls : List Clause} → Sheds b ks ls → no_default ks ≡ true → no_default ls ≡ true
named_alike no_case h = refl
named_alike (case_stays k {ks = ks} {ls = ls} s) h = let p = and_parts (not k.is_default) (no_default ks) h in and_from (not k.is_default) (no_default ls) p.0 (named_alike s p.1)
named_alike (case_sheds k {ks = ks} {ls = ls} f a e s) h = let p = and_parts (not k.is_default) (no_default ks) h in and_from (not k.is_default) (no_default ls) p.0 (named_alike s p.1)

module _ (mark n d : ℕ) where
  abbrev does : Tree → Meaning
  does = eval mark n (call_at (eval mark n) d)

  abbrev runs : Forest → Meaning
  runs ts = run_all (evals mark n (call_at (eval mark n) d) ts)

  -- behind a stopper anything may stand
  stopper_run : (ts us vs : Forest) (e : Context) → has_stopper ts ≡ true → runs (joined ts us) e ≡ runs (joined ts vs) e
  unfolding run_all evals
  stopper_run ε us vs e h = absurd (false≢true h)
  stopper_run (t ⊳ ts) us vs e h = by (λ k. stopper_run ts us vs e k) (is_stopper t) refl h
    where
      by : (has_stopper ts ≡ true → runs (joined ts us) e ≡ runs (joined ts vs) e) → (b : Bool) → is_stopper t ≡ b → (b || has_stopper ts) ≡ true → runs (t ⊳ joined ts us) e ≡ runs (t ⊳ joined ts vs) e
      by f true i k = stopped_run mark n d ε t (joined ts us) (joined ts vs) e i
      by f false i k = ap (λ (m : Run Value). does t e >>= λ v. m) (f k)

  ends_alike : {c : Bool} {ks hs ls : List Clause} → Ends ks hs → Sheds c hs ls → (e : Context) → run_all (bodies_from (cases mark n d (ks ++ hs))) e ≡ run_all (bodies_from (cases mark n d (ks ++ ls))) e
  ends_alike (all_run ks) no_case e = refl
  ends_alike {ls = ls} (some_run ks hs h) s e =
      bodies_run mark n d (ks ++ hs) e ∙ ap (λ ts. runs ts e) (bodies_joined ks hs) ∙ stopper_run (bodies_of ks) (bodies_of hs) (bodies_of ls) e h
      ∙ ap (λ ts. runs ts e) (sym (bodies_joined ks ls)) ∙ sym (bodies_run mark n d (ks ++ ls) e)

  -- what is selected, and run
  abbrev Alike : Run (List Meaning) → Run (List Meaning) → Context → Type 0
  Alike m k e = (s : State) → and_then (m s) (λ bs. run_all bs e) ≡ and_then (k s) (λ bs. run_all bs e)

  -- behind a test of a known value
  test_alike : (w : Value) (m : Run Value) (f g : Value → Run (List Meaning)) (e : Context) → Keeps (Is w) m → Alike (f w) (g w) e → Alike (m >>= f) (m >>= g) e
  unfolding and_then
  test_alike w m f g e q h s = by (m s) (q.by s)
    where
      by : (o : Outcome Value) → Quiet (Is w) s o → and_then (and_then o f) (λ bs. run_all bs e) ≡ and_then (and_then o g) (λ bs. run_all bs e)
      by (Done a t) p = subst (λ z. and_then (f z t) (λ bs. run_all bs e) ≡ and_then (g z t) (λ bs. run_all bs e)) (sym p.1) (h t)
      by (Jumps j t) p = absurd p
      by Outside p = refl
      by Cut p = refl

  run_path : {m k : Run (List Meaning)} (e : Context) → m ≡ k → Alike m k e
  run_path e p s = ap (λ (m : Run (List Meaning)). and_then (m s) (λ bs. run_all bs e)) p

  unequal_alike : (b : Bool) (t : Tree) (v w : Value) (m k : Meaning) (rest more : List Case) (os ps : List Meaning) (e : Context) → b ≡ false → pure mark t ≡ true → value_of mark t ≡ Some w → strict_equal (prim v) (prim w) ≡ Some false → Alike (selected rest os v e) (selected more ps v e) e → Alike (selected ((case_test b (does t), m) ∷ rest) os v e) (selected ((case_test b (does t), k) ∷ more) ps v e) e
  unfolding selected
  unequal_alike true t v w m k rest more os ps e i p j q h = absurd (true≢false i)
  unequal_alike false t v w m k rest more os ps e i p j q h =
      test_alike w (does t e) _ _ e (known_keeps mark n d t w e p j)
      (λ s. run_path e (unequal_is mark n d (strict_equal (prim v) (prim w)) (m ∷ bodies_from rest) (selected rest os v e) q) s ∙ h s ∙ sym (run_path e (unequal_is mark n d (strict_equal (prim v) (prim w)) (k ∷ bodies_from more) (selected more ps v e) q) s))

  equal_alike : (b : Bool) (t : Tree) (v w : Value) (m k : Meaning) (rest more : List Case) (os ps : List Meaning) (e : Context) → b ≡ false → pure mark t ≡ true → value_of mark t ≡ Some w → strict_equal (prim v) (prim w) ≡ Some true → run_all (m ∷ bodies_from rest) e ≡ run_all (k ∷ bodies_from more) e → Alike (selected ((case_test b (does t), m) ∷ rest) os v e) (selected ((case_test b (does t), k) ∷ more) ps v e) e
  unfolding selected and_then
  equal_alike true t v w m k rest more os ps e i p j q h = absurd (true≢false i)
  equal_alike false t v w m k rest more os ps e i p j q h =
      test_alike w (does t e) _ _ e (known_keeps mark n d t w e p j)
      (λ s. run_path e (equal_is mark n d (strict_equal (prim v) (prim w)) (m ∷ bodies_from rest) (selected rest os v e) q) s ∙ ap (λ (r : Run Value). r s) h ∙ sym (run_path e (equal_is mark n d (strict_equal (prim v) (prim w)) (k ∷ bodies_from more) (selected more ps v e) q) s))

  passed_alike : {v : Value} {b : Bool} {fs gs : List Clause} → Passed mark v fs → Sheds b fs gs → (ks ls : List Clause) (os ps : List Meaning) (e : Context) → Alike (selected (cases mark n d ks) os v e) (selected (cases mark n d ls) ps v e) e → Alike (selected (cases mark n d (fs ++ ks)) os v e) (selected (cases mark n d (gs ++ ls)) ps v e) e
  passed_alike none_passed no_case ks ls os ps e h = h
  passed_alike {v} (unequal k w i p j q r) (case_stays _ s) ks ls os ps e h = unequal_alike k.is_default k.test v w _ _ _ _ os ps e i p j.known q (passed_alike r s ks ls os ps e h)
  passed_alike {v} (unequal k w i p j q r) (case_sheds _ f a u s) ks ls os ps e h = unequal_alike k.is_default k.test v w _ _ _ _ os ps e i p j.known q (passed_alike r s ks ls os ps e h)
  passed_alike {v} (over_default k {ks = fs} i r) (case_stays _ {ls = gs} s) ks ls os ps e h = λ t. run_path e (over_step mark n d k.is_default k.test v (runs k.body) (cases mark n d (fs ++ ks)) os e i) t ∙ passed_alike r s ks ls os ps e h t ∙ sym (run_path e (over_step mark n d k.is_default k.test v (runs k.body) (cases mark n d (gs ++ ls)) ps e i) t)
  passed_alike {v} (over_default k {ks = fs} i r) (case_sheds _ {ls = gs} f a u s) ks ls os ps e h = λ t. run_path e (over_step mark n d k.is_default k.test v (runs k.body) (cases mark n d (fs ++ ks)) os e i) t ∙ passed_alike r s ks ls os ps e h t ∙ sym (run_path e (over_step mark n d k.is_default k.test v (runs (unlet k.body)) (cases mark n d (gs ++ ls)) ps e i) t)

  all_passed : {v : Value} {b : Bool} {ks ls : List Clause} → Passed mark v ks → Sheds b ks ls → (os ps : List Meaning) (e : Context) → run_all os e ≡ run_all ps e → Alike (selected (cases mark n d ks) os v e) (selected (cases mark n d ls) ps v e) e
  unfolding selected and_then
  all_passed {v} {b} {ks} {ls} p s os ps e h = subst (λ z. Alike (selected (cases mark n d z) os v e) (selected (cases mark n d ls) ps v e) e) (append-nil ks) (subst (λ z. Alike (selected (cases mark n d (ks ++ [])) os v e) (selected (cases mark n d z) ps v e) e) (append-nil ls) (passed_alike p s [] [] os ps e (λ t. ap (λ (r : Run Value). r t) h)))

  leading_alike : {v : Value} {b : Bool} {fs gs : List Clause} → Passed mark v fs → no_default fs ≡ true → Sheds b fs gs → (ks : List Clause) (e : Context) (s : State) → inner mark n d (fs ++ ks) v e s ≡ inner mark n d (gs ++ ks) v e s
  leading_alike {v} {b} {fs} {gs} p i s ks e =
      passed_alike p s ks ks _ _ e (run_path e (ap (λ (os : List Meaning). selected (cases mark n d ks) os v e) (default_behind mark n d fs ks i ∙ sym (default_behind mark n d gs ks (named_alike s i)))))

  selected_alike : {v : Value} {b c : Bool} {fs gs ks hs ls : List Clause} → Selects mark v fs (ks ++ hs) → Ends ks hs → Sheds b fs gs → Sheds c hs ls → (e : Context) (s : State) → inner mark n d (fs ++ (ks ++ hs)) v e s ≡ inner mark n d (gs ++ (ks ++ ls)) v e s
  selected_alike {ks = []} h (all_run _) s r e = elim h [ ]
  selected_alike {ks = []} h (some_run _ _ o) s r e = absurd (false≢true o)
  selected_alike {v} {ks = k ∷ ks} {hs = hs} {ls = ls} (by_test fs _ _ p m) o s r e = passed_alike p s (k ∷ (ks ++ hs)) (k ∷ (ks ++ ls)) _ _ e (equal_alike k.is_default k.test v m.met.value _ _ _ _ _ _ e m.no_default m.met.pure_test m.met.known.known m.met.compared (ends_alike o r e))
  selected_alike {v} {gs = gs} {ks = k ∷ ks} {hs = hs} {ls = ls} (by_default fs _ _ p i j) o s r e =
      all_passed p (sheds_both s (sheds_both (sheds_itself (k ∷ ks)) r)) _ _ e
      (ap (λ (os : List Meaning). run_all os e) (default_at mark n d fs k (ks ++ hs) i j) ∙ ends_alike o r e ∙ ap (λ (os : List Meaning). run_all os e) (sym (default_at mark n d gs k (ks ++ ls) (named_alike s i) j)))

  -- as the cases of a tree
  runs_at : (ks : List Clause) (v : Value) (e : Context) (s : State) → cases_at (eval mark) n d (kinds_of ks) (trees_of ks) v e s ≡ at_break (inner mark n d ks v e s)
  runs_at ks v e s =
      ap (λ (cs : List Case). at_break ((selected cs (default_bodies cs) v e >>= λ bs. run_all bs e) s))
      (ap (cases_of (kinds_of ks)) (sym (evals_are mark n (call_at (eval mark n) d) (trees_of ks))) ∙ cases_are mark n d ks)

opened_right : (mark : ℕ) (ss : List Span) (t : Tree) (v : Value) {ks ls : List Clause} → FixedValue mark t v → Sheds true ks ls → ((n d : ℕ) (e : Context) (s : State) → inner mark n d ks v e s ≡ inner mark n d ls v e s) → OpenRight mark (switch_tree ss t ks) (switch_tree ss t ls)
opened_right mark ss t v {ks} {ls} f s h =
    subst (λ ds. OpenRight mark (switch_tree ss t ks) (node (Switch ds) ss (t ⊳ trees_of ls))) (sym (sheds_kinds s))
    (cases_shed v (fixed_gives mark t v f.fixed f.known) (sheds_cases mark s).sheds
    (λ n d e c. runs_at mark n d ks v e c ∙ ap at_break (h n d e c) ∙ sym (subst (λ ds. cases_at (eval mark) n d ds (trees_of ls) v e c ≡ at_break (inner mark n d ls v e c)) (sheds_kinds s) (runs_at mark n d ls v e c))))

pub shed_right : (mark : ℕ) {t u : Tree} → ShedStep mark t u → OpenRight mark t u
shed_right mark (leading_shed ss d v fs gs ks e p i s) = opened_right mark ss d v e (sheds_both s (sheds_itself ks)) (λ n c x t. leading_alike mark n c p i s ks x t)
shed_right mark (selected_shed ss d v fs gs ks hs ls {b} {c} e p o s r i) = opened_right mark ss d v e (subst (λ z. Sheds z (fs ++ (ks ++ hs)) (gs ++ (ks ++ ls))) i (sheds_both s (sheds_both (sheds_itself ks) r))) (λ n m x t. selected_alike mark n m p o s r x t)
