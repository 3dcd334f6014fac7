-- Each step of a `switch` keeps and spares what a pass may not touch, and is lighter.
use Rattle.std.proofs.Common.{◌≡◌, ℕ, ◌<◌, Bool, true, false, not, List, [], ◌∷◌, ◌++◌, None, refl, sym, ap, subst, ◌∙◌}
use Rattle.std.proofs.lemmas.Bool.{and_parts, and_from, not-true, false≢true}
use Rattle.swc_ast.specs.declared.Span.{Span}
use Rattle.swc_ast.specs.Tree.{Name, ExprStmt, Break, FnDecl, Block, CaseBody, Switch, Tree, node, Forest, ε, ◌⊳◌, label_of}
use Rattle.swc_ast.specs.Scope.{vars, vars_all, joined}
use Rattle.swc_ast.specs.Valid.{valid, valid_all}
use Rattle.swc_ast.specs.Weight.{weight, unreached}
use Rattle.swc_ast.specs.Labels.{is_expression}
use Rattle.static_proofs.specs.Jumps.{jumps_out, any_jumps_out}
use Rattle.static_proofs.specs.Step.{Step}
use Rattle.static_proofs.proofs.Drawn.{valid_below}
use Rattle.swc_utils.proofs.Chains.{joined_assoc, joined_none}
use Rattle.static_proofs.proofs.Compose.{step_then}
use Rattle.swc_utils.specs.Pure.{pure, no_trees}
use Rattle.branch_rules.specs.Ignored.{goes}
use Rattle.branch_rules.specs.Jumps.{escapes, some_escape}
use Rattle.branch_rules.specs.Statements.{as_statement, is_plain, all_plain, Alone, nothing_alone, left_alone}
use Rattle.branch_rules.specs.Switches.{breaking, Clause, kinds_of, trees_of, bodies_of, switch_tree, has_test, have_tests, is_discriminant, functions_of, others_of, Unbroken, no_break, break_goes, stops_before, all_empty, SwitchStep, nothing_left, only_default, only_default_apart, selected_case, selected_default, none_selected, leading_go}
use Rattle.branch_rules.specs.Vars.{each_once, VarsOf, Declares, none_declared}
use Rattle.branch_proofs.proofs.BranchForms as branch
use Rattle.branch_proofs.proofs.BranchesOwe.{branch_step, joined_plain}
use Rattle.branch_proofs.proofs.Escapes.{both_false, none_behind, break_out, breaks_out, functions_stay}
use Rattle.branch_proofs.proofs.HoistsOf.{hoists_by}
use Rattle.branch_proofs.proofs.ListForms.{Hoists, no_vars}
use Rattle.branch_proofs.proofs.StatementsOwe.{tested_of}
use Rattle.branch_proofs.proofs.SwitchDeclared.{test_vars, discriminant_vars}
use Rattle.branch_proofs.proofs.SwitchForms as form
use Rattle.branch_proofs.proofs.SwitchForms.{Parts, no_parts, part_in, part_out, Takes, takes_none, test_out, case_in}
use Rattle.branch_proofs.proofs.SwitchesOwe.{switch_step}
use Rattle.branch_proofs.proofs.Unbroken.{functions_are}

-- items that stay and items that go

all_out : (ts : Forest) → Parts ts ε ts
all_out ε = no_parts
all_out (t ⊳ ts) = part_out (all_out ts)

pub all_in : (ts : Forest) → Parts ts ts ε
all_in ε = no_parts
all_in (t ⊳ ts) = part_in (all_in ts)

pub behind : (ts : Forest) {us vs ws : Forest} → Parts us vs ws → Parts (joined ts us) (joined ts vs) ws
behind ε p = p
behind (t ⊳ ts) p = part_in (behind ts p)

functions_in : (ts : Forest) → Parts ts (functions_of ts) (others_of ts)
functions_in ε = no_parts
functions_in (node (FnDecl x) ss cs ⊳ ts) = part_in (functions_in ts)
functions_in (t ⊳ ts) = part_out (functions_in ts)

-- what stays and goes of statements of a switch; what goes declares the `var`s of what is said to go
record Taken (whole ts gs : Forest) : Type 0 where
  gone : Forest
  parts : Parts whole ts gone
  same : vars_all gone ≡ vars_all gs
  no_breaks : any_jumps_out true false ts ≡ false

taken_of : {whole ts gs : Forest} → Unbroken whole ts gs → Taken whole ts gs
taken_of (no_break ts e) = record { gone = ε; parts = all_in ts; same = refl; no_breaks = breaks_out ts e }
taken_of (break_goes ts ss us e) = record { gone = node (Break None) ss ε ⊳ others_of us; parts = behind ts (part_out (functions_in us)); same = refl; no_breaks = breaks_out (joined ts (functions_of us)) (none_behind breaking ts (functions_of us) e (functions_stay breaking (functions_of us) (functions_are us))) }
taken_of (stops_before ts t us e h f) = record { gone = others_of us; parts = behind ts (part_in (functions_in us)); same = refl; no_breaks = breaks_out (joined ts (t ⊳ functions_of us)) (none_behind breaking ts (t ⊳ functions_of us) e (both_false (escapes breaking t) (some_escape breaking (functions_of us)) f (functions_stay breaking (functions_of us) (functions_are us)))) }

-- cases

record PartsApart (us vs ts gs : Forest) : Type 0 where
  first : Forest
  second : Forest
  gone_first : Forest
  gone_second : Forest
  stays : ts ≡ joined first second
  goes : gs ≡ joined gone_first gone_second
  of_first : Parts us first gone_first
  of_second : Parts vs second gone_second

parts_apart : (us vs : Forest) {ts gs : Forest} → Parts (joined us vs) ts gs → PartsApart us vs ts gs
parts_apart ε vs {ts} {gs} p = record { first = ε; second = ts; gone_first = ε; gone_second = gs; stays = refl; goes = refl; of_first = no_parts; of_second = p }
parts_apart (u ⊳ us) vs (part_in p) = let r = parts_apart us vs p in record { first = u ⊳ r.first; second = r.second; gone_first = r.gone_first; gone_second = r.gone_second; stays = ap (λ zs. u ⊳ zs) r.stays; goes = r.goes; of_first = part_in r.of_first; of_second = r.of_second }
parts_apart (u ⊳ us) vs (part_out p) = let r = parts_apart us vs p in record { first = r.first; second = r.second; gone_first = u ⊳ r.gone_first; gone_second = r.gone_second; stays = r.stays; goes = ap (λ zs. u ⊳ zs) r.goes; of_first = part_out r.of_first; of_second = r.of_second }

takes_of : (ks : List Clause) → have_tests ks ≡ true → {ts gs : Forest} → Parts (bodies_of ks) ts gs → Takes (trees_of ks) ts gs
takes_of [] h no_parts = takes_none
takes_of (k ∷ ks) h {ts} {gs} p =
    let a = parts_apart k.body (bodies_of ks) p in
    let q = and_parts (has_test k) (have_tests ks) h in
    subst (λ zs. Takes (trees_of (k ∷ ks)) zs gs) (sym a.stays) (subst (λ zs. Takes (trees_of (k ∷ ks)) (joined a.first a.second) zs) (sym a.goes) (test_out (test_vars k q.0) (case_in a.of_first (takes_of ks q.1 a.of_second))))

-- leading cases go
takes_behind : (fs ks : List Clause) → have_tests (fs ++ ks) ≡ true → {ts gs : Forest} → Takes (trees_of ks) ts gs → Takes (trees_of (fs ++ ks)) ts (joined (bodies_of fs) gs)
takes_behind [] ks h t = t
takes_behind (k ∷ fs) ks h {ts} {gs} t =
    let q = and_parts (has_test k) (have_tests (fs ++ ks)) h in
    subst (Takes (trees_of (k ∷ (fs ++ ks))) ts) (sym (joined_assoc k.body (bodies_of fs) gs)) (test_out (test_vars k q.0) (case_in (all_out k.body) (takes_behind fs ks q.1 t)))

tests_of : (fs ks : List Clause) → have_tests (fs ++ ks) ≡ true → have_tests ks ≡ true
tests_of [] ks h = h
tests_of (k ∷ fs) ks h = tests_of fs ks (and_parts (has_test k) (have_tests (fs ++ ks)) h).1

vars_behind : (ts us vs : Forest) → vars_all us ≡ vars_all vs → vars_all (joined ts us) ≡ vars_all (joined ts vs)
vars_behind ε us vs h = h
vars_behind (t ⊳ ts) us vs h = ap (λ xs. vars t ++ xs) (vars_behind ts us vs h)

hoists_same_vars : (ts us : Forest) {hs : Forest} → vars_all ts ≡ vars_all us → VarsOf us hs → Hoists ts hs
hoists_same_vars ts us e o = hoists_by ts o (ap (each_once []) (sym e))

no_break_out : (d : Tree) → is_discriminant d ≡ true → jumps_out true false d ≡ false
no_break_out d h = break_out d (not-true (escapes breaking d) (and_parts (is_expression (label_of d)) (not (escapes breaking d)) h).1)

discriminant_valid : (ss : List Span) (d : Tree) (ks : List Clause) → valid (switch_tree ss d ks) ≡ true → valid d ≡ true
discriminant_valid ss d ks v = (and_parts (valid d) (valid_all (trees_of ks)) (valid_below (Switch (kinds_of ks)) ss (d ⊳ trees_of ks) v)).0

empty_bodies : (fs : List Clause) → all_empty fs ≡ true → bodies_of fs ≡ ε
empty_bodies [] h = refl
empty_bodies (k ∷ fs) h = let p = and_parts (no_trees k.body) (all_empty fs) h in first_empty k.body p.0 ∙ empty_bodies fs p.1
  where
    first_empty : (ts : Forest) {us : Forest} → no_trees ts ≡ true → joined ts us ≡ us
    first_empty ε e = refl
    first_empty (t ⊳ ts) e = absurd (false≢true e)

no_vars_left : (ts : Forest) → vars_all ts ≡ [] → VarsOf ts ε
no_vars_left ts e = subst (λ xs. Declares (each_once [] xs) ε) (sym e) none_declared

trees_behind : (fs ks : List Clause) → trees_of (fs ++ ks) ≡ joined (trees_of fs) (trees_of ks)
trees_behind [] ks = refl
trees_behind (k ∷ fs) ks = ap (λ zs. k.test ⊳ node CaseBody k.spans k.body ⊳ zs) (trees_behind fs ks)

first_tests : (fs ks : List Clause) → have_tests (fs ++ ks) ≡ true → have_tests fs ≡ true
first_tests [] ks h = refl
first_tests (k ∷ fs) ks h = let p = and_parts (has_test k) (have_tests (fs ++ ks)) h in and_from (has_test k) (have_tests fs) p.0 (first_tests fs ks p.1)

lighter_at : {m : ℕ} (rs xs : List Span) (ts : Forest) → weight (as_statement xs ts) < m → weight (as_statement rs ts) < m
lighter_at rs xs ε h = h
lighter_at rs xs (t ⊳ ε) h = h
lighter_at rs xs (t ⊳ u ⊳ ts) h = h

alone_plain : {mark : ℕ} {c : Bool} {a : Tree} {es : Forest} → Alone mark c a es → all_plain es ≡ true
alone_plain (nothing_alone a r) = refl
alone_plain (left_alone rs a v e r) = refl

pure_alone : (mark : ℕ) (d : Tree) → is_discriminant d ≡ true → pure mark d ≡ true → Alone mark true d ε
pure_alone mark d h p = nothing_alone d (goes d (and_parts (is_expression (label_of d)) (not (escapes breaking d)) h).0 p)

module _ {N : Type 0} {P : Name → Type 0} (n : N) (rs : List Span) where
  -- a block that is opened
  opened_step : (ss : List Span) (d : Tree) (ks : List Clause) (ts : Forest) → all_plain ts ≡ true → Step N P (switch_tree ss d ks) (node Block rs ts) → Step N P (switch_tree ss d ks) (as_statement rs ts)
  opened_step ss d ks ε h s = step_then refl s (branch_step _ _ n branch.hollow)
  opened_step ss d ks (t ⊳ ε) h s = step_then refl s (branch_step _ _ n (branch.unwrap (and_parts (is_plain t) true h).0))
  opened_step ss d ks (t ⊳ u ⊳ ts) h s = s

  leading_step : (ss us xs : List Span) (d : Tree) (fs ks : List Clause) {vs : Forest} → have_tests (fs ++ ks) ≡ true → VarsOf (bodies_of fs) vs → weight (as_statement xs (joined vs (switch_tree us d ks ⊳ ε))) < weight (switch_tree ss d (fs ++ ks)) → Step N P (switch_tree ss d (fs ++ ks)) (as_statement rs (joined vs (switch_tree us d ks ⊳ ε)))
  leading_step ss us xs d fs ks {vs} g o w =
      subst (λ zs. Step N P (node (Switch (kinds_of (fs ++ ks))) ss (d ⊳ zs)) (as_statement rs (joined vs (switch_tree us d ks ⊳ ε)))) (sym (trees_behind fs ks))
      (switch_step _ _ n (form.cases_gone {ss = ss} {d = d} us (trees_of fs) (trees_of ks) (bodies_of fs) (kinds_of ks) rs vs (takes_of fs (first_tests fs ks g) (all_out (bodies_of fs))) (hoists_same_vars (bodies_of fs) (bodies_of fs) refl o)
      (subst (λ zs. weight (as_statement rs (joined vs (switch_tree us d ks ⊳ ε))) < weight (node (Switch (kinds_of (fs ++ ks))) ss (d ⊳ zs))) (trees_behind fs ks) (lighter_at rs xs (joined vs (switch_tree us d ks ⊳ ε)) w))))

module _ {N : Type 0} {P : Name → Type 0} {mark : ℕ} (n : N) (rs : List Span) where
  -- no case is taken
  pub none_taken_step : {c : Bool} (ss : List Span) (d : Tree) (ks : List Clause) {es vs : Forest} → is_discriminant d ≡ true → have_tests ks ≡ true → Alone mark c d es → VarsOf (bodies_of ks) vs → Step N P (switch_tree ss d ks) (as_statement rs (joined es vs))
  none_taken_step ss d ks {es} {vs} h g a q = switch_step _ _ n (form.none_taken rs es vs (discriminant_vars d h) (no_break_out d h) (takes_of ks g (all_out (bodies_of ks))) (tested_of _ (discriminant_valid ss d ks) a) (hoists_same_vars (bodies_of ks) (bodies_of ks) refl q))

  -- statements are taken, in a block
  pub taken_step : {c : Bool} (ss us : List Span) (d : Tree) (fs ks : List Clause) {es ts gs vs : Forest} → is_discriminant d ≡ true → have_tests (fs ++ ks) ≡ true → Alone mark c d es → Unbroken (bodies_of ks) ts gs → VarsOf (joined (bodies_of fs) gs) vs → unreached ts ≡ 0 → Step N P (switch_tree ss d (fs ++ ks)) (node Block us (joined es (joined vs ts)))
  taken_step ss us d fs ks {es} {ts} {gs} {vs} h g a u o z =
      let t = taken_of u in
      switch_step _ _ n (form.taken us es vs (discriminant_vars d h) (no_break_out d h) (takes_behind fs ks g (takes_of ks (tests_of fs ks g) t.parts)) t.no_breaks (tested_of _ (discriminant_valid ss d (fs ++ ks)) a) (hoists_same_vars (joined (bodies_of fs) t.gone) (joined (bodies_of fs) gs) (vars_behind (bodies_of fs) t.gone gs t.same) o) z)

  default_step : {c : Bool} (ss us : List Span) (d : Tree) (fs : List Clause) (k : Clause) {es ts gs : Forest} → is_discriminant d ≡ true → have_tests (fs ++ k ∷ []) ≡ true → all_empty fs ≡ true → Alone mark c d es → Unbroken k.body ts gs → vars_all gs ≡ [] → unreached ts ≡ 0 → Step N P (switch_tree ss d (fs ++ k ∷ [])) (node Block us (joined es ts))
  default_step ss us d fs k {ts = ts} {gs} h g e a u v z = taken_step ss us d fs (k ∷ []) h g a (subst (λ zs. Unbroken zs ts gs) (sym (joined_none k.body)) u) (no_vars_left (joined (bodies_of fs) gs) (subst (λ zs. vars_all (joined zs gs) ≡ []) (sym (empty_bodies fs e)) v)) z

  apart_step : {c : Bool} (ss us : List Span) (d : Tree) (fs : List Clause) (k : Clause) {es ts gs : Forest} → is_discriminant d ≡ true → have_tests (fs ++ k ∷ []) ≡ true → all_empty fs ≡ true → Alone mark c d es → Unbroken k.body ts gs → vars_all gs ≡ [] → unreached ts ≡ 0 → Step N P (switch_tree ss d (fs ++ k ∷ [])) (as_statement rs (joined es (node Block us ts ⊳ ε)))
  apart_step ss us d fs k h g e (nothing_alone _ r) u v z = default_step ss us d fs k h g e (nothing_alone d r) u v z
  apart_step ss us d fs k {ts = ts} {gs} h g e (left_alone qs _ w x r) u v z =
      let t = taken_of (subst (λ zs. Unbroken zs ts gs) (sym (joined_none k.body)) u) in
      switch_step _ _ n (form.taken_apart rs us (node ExprStmt qs (w ⊳ ε) ⊳ ε) ε (discriminant_vars d h) (no_break_out d h) (takes_behind fs (k ∷ []) g (takes_of (k ∷ []) (tests_of fs (k ∷ []) g) t.parts)) t.no_breaks (tested_of _ (discriminant_valid ss d (fs ++ k ∷ [])) (left_alone qs d w x r)) (no_vars (subst (λ zs. vars_all (joined zs t.gone) ≡ []) (sym (empty_bodies fs e)) (t.same ∙ v))) z)

  pub switch_owes : {t : Tree} {us : Forest} → SwitchStep mark t us → Step N P t (as_statement rs us)
  switch_owes (nothing_left ss d ks h g p r e a q) = none_taken_step ss d ks h g a q
  switch_owes (only_default ss d fs k {es} {ts} h g p i j w a u v q z l y) = opened_step n rs ss d (fs ++ k ∷ []) (joined es ts) (joined_plain es ts (alone_plain a) l) (default_step ss rs d fs k h g j a u v z)
  switch_owes (only_default_apart ss us d fs k h g p i j w a u v q z) = apart_step ss us d fs k h g j a u v z
  switch_owes (selected_case ss us d v w fs k ks h g p e r i j l m u q o z) = taken_step ss us d fs (k ∷ ks) h g (pure_alone mark d h p) u o z
  switch_owes (selected_default ss us d v fs k ks h g p e r i j u q o z) = taken_step ss us d fs (k ∷ ks) h g (pure_alone mark d h p) u o z
  switch_owes (none_selected ss d v ks h g p e r i f q) = none_taken_step ss d ks h g (pure_alone mark d h p) q
  switch_owes (leading_go ss us xs d v fs ks h g e r i q o w) = leading_step n rs ss us xs d fs ks g o w
