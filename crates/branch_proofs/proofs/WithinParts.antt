-- What stands between a loop and a `do` in its body: where the parts do, under some labels, what others do, so does the whole.
use Rattle.std.proofs.Common.{◌≡◌, ℕ, Bool, true, false, List, [], ◌∷◌, Option, Some, None, refl, ap}
use Rattle.swc_ast.specs.Tree.{Name, Forest}
use Rattle.swc_ast.specs.Value.{Value, Undefined, Broken, Continued, Returned, Thrown, Outcome, Done, Jumps, Outside, Cut, Run, and_then, Context, Meaning}
use Rattle.swc_ast.specs.Operators.{truthy, strict_equal, prim}
use Rattle.swc_ast.specs.Scope.{Declared, is_found, declared, case_statements}
use Rattle.swc_ast.specs.Meaning.{◌>>=◌, gives, numbered, in_scope, is_param, in_list_scope, in_core, at_label, at_break, Case, cases_of, bodies_from, default_bodies, chosen, selected, switch, handled, resume, finally, try_catch, run_all, shape3, shape1+, shape_if}
use Rattle.meaning_proofs.specs.Exact.{Refined, Refines}
use Rattle.meaning_proofs.proofs.Relation.{Each, none, more}
use Rattle.swc_utils.proofs.Refines.{refines_same, refines_then, refines_trans, refines_assoc, refines_chain}
use Rattle.pass_proofs.proofs.Refines.{refines_path}
use Rattle.branch_proofs.proofs.Loops.{refines_if, refined_same, refined_by}
use Rattle.branch_proofs.proofs.Relabelled.{relabel}
use Rattle.branch_proofs.proofs.Statements.{scope_of}
use Rattle.branch_proofs.proofs.Switches.{break_refines}

-- the second does what the first does, under some labels
pub record Bare (ls : List (List ℕ)) (m k : Meaning) : Type 0 where
  pub by : (c : Context) → Refines (m (relabel ls c)) (k (relabel ls c))

pub bare_same : {ls : List (List ℕ)} (m : Meaning) → Bare ls m m
bare_same m = record { by = λ c. refines_same _ }

-- what a handler, or none, makes of outcomes
handled_outcome : (p : Option (Option Name)) (h : Meaning) (c : Context) (o q : Outcome Value) → Refined o q → Refined (handled p h c o) (handled p h c q)
handled_outcome None h c o q r = r
handled_outcome (Some x) h c o q r = refined_by (handled (Some x) h c) o q refl refl r

-- what is done with the bodies of a case that is chosen, or with those behind it
chosen_bare : (f : List Meaning → Run Value) (b : Bool) (ms ks : List Meaning) (x y : Run (List Meaning)) → Refines (f ms) (f ks) → Refines (x >>= f) (y >>= f) → Refines (chosen b ms x >>= f) (chosen b ks y >>= f)
unfolding and_then
chosen_bare f true ms ks x y r q = r
chosen_bare f false ms ks x y r q = q

-- cases whose tests and bodies do
data CaseBare (ls : List (List ℕ)) : Case → Case → Type 0 where
  default_bare : {m k : Meaning} → Bare ls m k → CaseBare ls (None, m) (None, k)
  test_bare : {t u m k : Meaning} → Bare ls t u → Bare ls m k → CaseBare ls (Some t, m) (Some u, k)

module _ {ls : List (List ℕ)} where
  -- in a scope of their own
  pub scope_bare : (ps : List Declared) {m k : Meaning} → Bare ls m k → Bare ls (scope_of ps m) (scope_of ps k)
  unfolding in_scope
  scope_bare ps h = record { by = λ c. record { by = λ s. (h.by (record c { env = numbered (λ x. is_found x ps) c.env s })).by _ } }

  -- one after another
  pub all_bare : {ms ks : List Meaning} → Each (Bare ls) ms ks → Bare ls (run_all ms) (run_all ks)
  unfolding run_all
  all_bare none = bare_same _
  all_bare (more h hs) = record { by = λ c. refines_then (h.by c) (λ v. (all_bare hs).by c) }

  -- a condition
  pub if_bare : {ms ks : List Meaning} → Each (Bare ls) ms ks → Bare ls (shape_if ms) (shape_if ks)
  if_bare none = bare_same _
  if_bare (more t none) = bare_same _
  if_bare (more t (more a none)) = record { by = λ c. refines_then (t.by c) (λ v. refines_if (truthy v) (a.by c) (refines_same (gives Undefined))) }
  if_bare (more t (more a (more b none))) = record { by = λ c. refines_then (t.by c) (λ v. refines_if (truthy v) (a.by c) (b.by c)) }
  if_bare (more t (more a (more b (more d ds)))) = bare_same _

  -- behind a label, which comes in front of the others
  pub label_bare : (l : List ℕ) {m k : Meaning} → Bare (l ∷ ls) m k → Bare ls (λ c s. at_label l (m (record c { labels = l ∷ c.labels }) s)) (λ c s. at_label l (k (record c { labels = l ∷ c.labels }) s))
  unfolding at_label
  label_bare l h = record { by = λ c. record { by = λ s. refined_by (at_label l) _ _ refl refl ((h.by c).by s) } }

  -- try

  handled_bare : (p : Option (Option Name)) {h k : Meaning} → Bare ls h k → (c : Context) (o : Outcome Value) → Refined (handled p h (relabel ls c) o) (handled p k (relabel ls c) o)
  unfolding in_scope
  handled_bare None r c o = refined_same o
  handled_bare (Some x) r c (Jumps (Thrown v) s) = (r.by (record c { env = numbered (is_param x) c.env s })).by _
  handled_bare (Some x) r c (Jumps (Broken l) s) = refl
  handled_bare (Some x) r c (Jumps (Continued l) s) = refl
  handled_bare (Some x) r c (Jumps (Returned v) s) = refl
  handled_bare (Some x) r c (Done v s) = refl
  handled_bare (Some x) r c Outside = tt
  handled_bare (Some x) r c Cut = tt

  finally_bare : {f g : Meaning} → Bare ls f g → (c : Context) (o : Outcome Value) → Refined (finally f (relabel ls c) o) (finally g (relabel ls c) o)
  finally_bare r c (Done v s) = refined_by (resume (Done v s)) _ _ refl refl ((r.by c).by s)
  finally_bare r c (Jumps j s) = refined_by (resume (Jumps j s)) _ _ refl refl ((r.by c).by s)
  finally_bare r c Outside = tt
  finally_bare r c Cut = tt

  catch_bare : (p : Option (Option Name)) {b d h k f g : Meaning} → Bare ls b d → Bare ls h k → Bare ls f g → Bare ls (try_catch p b h f) (try_catch p d k g)
  unfolding try_catch
  catch_bare p {b} {d} {h} {k} {f} {g} rb rh rf = record {
    by = λ c.
        let e = relabel ls c in
        refines_trans (record { by = λ s. refined_by (finally f e) (handled p h e (b e s)) (handled p h e (d e s)) refl refl (handled_outcome p h e (b e s) (d e s) ((rb.by c).by s)) })
        (refines_trans (record { by = λ s. refined_by (finally f e) (handled p h e (d e s)) (handled p k e (d e s)) refl refl (handled_bare p rh c (d e s)) })
        (record { by = λ s. finally_bare rf c (handled p k e (d e s)) }));
  }

  pub try_bare : (p : Option (Option Name)) {ms ks : List Meaning} → Each (Bare ls) ms ks → Bare ls (shape3 (try_catch p) ms) (shape3 (try_catch p) ks)
  try_bare p none = bare_same _
  try_bare p (more b none) = bare_same _
  try_bare p (more b (more h none)) = bare_same _
  try_bare p (more b (more h (more f none))) = catch_bare p b h f
  try_bare p (more b (more h (more f (more x xs)))) = bare_same _

  -- a switch

  cases_bare : (ds : List Bool) {ms ks : List Meaning} → Each (Bare ls) ms ks → Each (CaseBare ls) (cases_of ds ms) (cases_of ds ks)
  cases_bare [] hs = none
  cases_bare (d ∷ ds) none = none
  cases_bare (d ∷ ds) (more h none) = none
  cases_bare (true ∷ ds) (more h (more i hs)) = more (default_bare i) (cases_bare ds hs)
  cases_bare (false ∷ ds) (more h (more i hs)) = more (test_bare h i) (cases_bare ds hs)

  bodies_bare : {xs ys : List Case} → Each (CaseBare ls) xs ys → Each (Bare ls) (bodies_from xs) (bodies_from ys)
  bodies_bare none = none
  bodies_bare (more (default_bare h) hs) = more h (bodies_bare hs)
  bodies_bare (more (test_bare t h) hs) = more h (bodies_bare hs)

  defaults_bare : {xs ys : List Case} → Each (CaseBare ls) xs ys → Each (Bare ls) (default_bodies xs) (default_bodies ys)
  defaults_bare none = none
  defaults_bare (more (default_bare h) hs) = more h (bodies_bare hs)
  defaults_bare (more (test_bare t h) hs) = defaults_bare hs

  -- the bodies that are run
  selected_bare : (c : Context) (f : List Meaning → Run Value) → ((ms ks : List Meaning) → Each (Bare ls) ms ks → Refines (f ms) (f ks)) → {xs ys : List Case} → Each (CaseBare ls) xs ys → {ms ks : List Meaning} → Each (Bare ls) ms ks → (v : Value) → Refines (selected xs ms v (relabel ls c) >>= f) (selected ys ks v (relabel ls c) >>= f)
  unfolding selected and_then
  selected_bare c f then none {ms} {ks} os v = then ms ks os
  selected_bare c f then (more (default_bare h) hs) os v = selected_bare c f then hs os v
  selected_bare c f then {xs = (Some t, m) ∷ xs} {ys = (Some u, k) ∷ ys} (more (test_bare ht h) hs) {ms} {ks} os v =
      refines_assoc (t (relabel ls c)) (λ w. in_core (strict_equal (prim v) (prim w)) >>= λ same. chosen same (m ∷ bodies_from xs) (selected xs ms v (relabel ls c))) f
      (refines_chain (u (relabel ls c)) (λ w. in_core (strict_equal (prim v) (prim w)) >>= λ same. chosen same (k ∷ bodies_from ys) (selected ys ks v (relabel ls c))) f
      (refines_then (ht.by c) (λ w.
      refines_assoc (in_core (strict_equal (prim v) (prim w))) (λ same. chosen same (m ∷ bodies_from xs) (selected xs ms v (relabel ls c))) f
      (refines_chain (in_core (strict_equal (prim v) (prim w))) (λ same. chosen same (k ∷ bodies_from ys) (selected ys ks v (relabel ls c))) f
      (refines_then (refines_same (in_core (strict_equal (prim v) (prim w)))) (λ same. chosen_bare f same (m ∷ bodies_from xs) (k ∷ bodies_from ys) (selected xs ms v (relabel ls c)) (selected ys ks v (relabel ls c)) (then (m ∷ bodies_from xs) (k ∷ bodies_from ys) (more h (bodies_bare hs))) (selected_bare c f then hs os v)))))))

  -- with a `break` of the switch
  broken_bare : {xs ys : List Case} → Each (CaseBare ls) xs ys → (v : Value) → Bare ls (λ d s. at_break ((selected xs (default_bodies xs) v d >>= λ bodies. run_all bodies d) s)) (λ d s. at_break ((selected ys (default_bodies ys) v d >>= λ bodies. run_all bodies d) s))
  broken_bare hs v = record { by = λ c. break_refines (selected_bare c (λ bodies. run_all bodies (relabel ls c)) (λ ms ks bs. (all_bare bs).by c) hs (defaults_bare hs) v) }

  pub switch_bare : (ts us : Forest) (ds : List Bool) {ms ks : List Meaning} → declared (case_statements ts) ≡ declared (case_statements us) → Each (Bare ls) ms ks → Bare ls (shape1+ (λ d bs. switch ts (cases_of ds bs) d) ms) (shape1+ (λ d bs. switch us (cases_of ds bs) d) ks)
  unfolding switch in_list_scope
  switch_bare ts us ds e none = bare_same _
  switch_bare ts us ds {ks = k ∷ ks} e (more h hs) = record {
    by = λ c. refines_then (h.by c) (λ v. refines_trans ((scope_bare (declared (case_statements ts)) (broken_bare (cases_bare ds hs) v)).by c)
        (refines_path (ap (λ (ps : List Declared). scope_of ps (λ d s. at_break ((selected (cases_of ds ks) (default_bodies (cases_of ds ks)) v d >>= λ bodies. run_all bodies d) s)) (relabel ls c)) e)));
  }
