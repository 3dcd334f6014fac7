-- Cases without the `let` and `const` that stand directly in them: which declarations went, and that the `switch` owes nothing.
use Rattle.std.proofs.Common.{◌≡◌, ℕ, ◌+◌, ◌≤◌, ◌<◌, Bool, true, false, ◌||◌, if◌then◌else◌, List, [], ◌∷◌, ◌++◌, suc, refl, sym, ap, subst, ◌∙◌, arith}
use Rattle.std.proofs.lemmas.Bool.{and_parts, false≢true}
use Rattle.swc_ast.specs.declared.Span.{Span}
use Rattle.swc_ast.specs.declared.VarDeclKind.TheVariants.{Var, Let, Const}
use Rattle.swc_ast.specs.Tree.{Name, VarDecl, CaseBody, Switch, Tree, node, Forest, ε, ◌⊳◌}
use Rattle.swc_ast.specs.Weight.{own_weight, weight, weight_all, is_stopper, stays_behind, movable, unreached}
use Rattle.static_proofs.specs.Step.{Step}
use Rattle.static_proofs.proofs.Plain.{statement_plain, spares_plain}
use Rattle.static_proofs.proofs.Spared.{spared_path}
use Rattle.static_proofs.proofs.Thinned.{inside, thinned_keeps}
use Rattle.walk_proofs.specs.Dying as dying
use Rattle.walk_proofs.specs.Dying.{sheds_none, item_goes, CasesShed, no_tree, tree_stays, body_sheds}
use Rattle.walk_proofs.proofs.Cases.{all_itself, cases_thin, cases_vars}
use Rattle.branch_rules.specs.Lists.{is_statement, all_statements}
use Rattle.branch_rules.specs.Switches.{Clause, kinds_of, trees_of, switch_tree, is_shed, unlet, has_shed, Sheds, no_case, case_stays, case_sheds, ShedStep, leading_shed, selected_shed}
use Rattle.branch_proofs.proofs.BranchesOwe.{statement_lowers}
use Rattle.branch_proofs.proofs.ShedNames.{shed_names, let_names}

-- behind what never ends normally they all go

item_sheds : {mark : ℕ} (t : Tree) {ts us : Forest} {xs : List Name} → (stays_behind t || is_statement t) ≡ true → dying.Sheds mark true ts us xs → dying.Sheds mark true (t ⊳ ts) (if is_shed t then us else t ⊳ us) (shed_names t ++ xs)
item_sheds (node (VarDecl Var) ss ε) h k = dying.item_stays k
item_sheds (node (VarDecl Var) ss (d ⊳ ds)) h k = dying.item_stays k
item_sheds (node (VarDecl Let) ss ε) h k = dying.item_stays k
item_sheds (node (VarDecl Let) ss (d ⊳ ds)) h k = item_goes refl h k
item_sheds (node (VarDecl Const) ss ε) h k = dying.item_stays k
item_sheds (node (VarDecl Const) ss (d ⊳ ds)) h k = item_goes refl h k
item_sheds t h k = dying.item_stays k

pub unlet_sheds : {mark : ℕ} (ts : Forest) → all_statements ts ≡ true → dying.Sheds mark true ts (unlet ts) (let_names ts)
unlet_sheds ε h = sheds_none
unlet_sheds (t ⊳ ts) h = let p = and_parts (stays_behind t || is_statement t) (all_statements ts) h in item_sheds t p.0 (unlet_sheds ts p.1)

-- of cases

pub record Unlet (mark : ℕ) (ks ls : List Clause) : Type 0 where
  pub names : List Name
  pub sheds : CasesShed mark (trees_of ks) (trees_of ls) names

pub sheds_cases : (mark : ℕ) {b : Bool} {ks ls : List Clause} → Sheds b ks ls → Unlet mark ks ls
sheds_cases mark no_case = record { names = []; sheds = no_tree }
sheds_cases mark (case_stays k s) = let r = sheds_cases mark s in record { names = r.names; sheds = tree_stays (tree_stays r.sheds) }
sheds_cases mark (case_sheds k f a h s) = let r = sheds_cases mark s in record { names = let_names k.body ++ r.names; sheds = tree_stays (body_sheds (unlet_sheds k.body a) r.sheds) }

pub sheds_kinds : {b : Bool} {ks ls : List Clause} → Sheds b ks ls → kinds_of ls ≡ kinds_of ks
sheds_kinds no_case = refl
sheds_kinds (case_stays k s) = ap (λ ds. k.is_default ∷ ds) (sheds_kinds s)
sheds_kinds (case_sheds k f a h s) = ap (λ ds. k.is_default ∷ ds) (sheds_kinds s)

pub sheds_itself : (ks : List Clause) → Sheds false ks ks
sheds_itself [] = no_case
sheds_itself (k ∷ ks) = case_stays k (sheds_itself ks)

pub sheds_both : {b c : Bool} {fs gs ks ls : List Clause} → Sheds b fs gs → Sheds c ks ls → Sheds (b || c) (fs ++ ks) (gs ++ ls)
sheds_both no_case i = i
sheds_both (case_stays k h) i = case_stays k (sheds_both h i)
sheds_both (case_sheds k f a e h) i = case_sheds k f a e (sheds_both h i)

-- a `switch` of which some cases lose declarations
record Shedded (t u : Tree) : Type 0 where
  pub spans : List Span
  pub given : Tree
  pub before : List Clause
  pub behind : List Clause
  pub was : t ≡ switch_tree spans given before
  pub is : u ≡ switch_tree spans given behind
  pub sheds : Sheds true before behind

shedded : {mark : ℕ} {t u : Tree} → ShedStep mark t u → Shedded t u
shedded (leading_shed ss d v fs gs ks e p n s) = record { spans = ss; given = d; before = fs ++ ks; behind = gs ++ ks; was = refl; is = refl; sheds = sheds_both s (sheds_itself ks) }
shedded (selected_shed ss d v fs gs ks hs ls {b} {c} e p q s r o) = record { spans = ss; given = d; before = fs ++ (ks ++ hs); behind = gs ++ (ks ++ ls); was = refl; is = refl; sheds = subst (λ z. Sheds z (fs ++ (ks ++ hs)) (gs ++ (ks ++ ls))) o (sheds_both s (sheds_both (sheds_itself ks) r)) }

-- they weigh less

shed_heavy : (t : Tree) → is_shed t ≡ true → 1 ≤ weight t
unfolding own_weight
shed_heavy (node (VarDecl k) ss (d ⊳ ds)) h = omega arith
shed_heavy t h = absurd (false≢true h)

shed_runs : (t : Tree) → is_shed t ≡ true → is_stopper t ≡ false
shed_runs (node (VarDecl k) ss (d ⊳ ds)) h = refl
shed_runs t h = absurd (false≢true h)

unlet_light : (ts : Forest) → weight_all (unlet ts) ≤ weight_all ts
unlet_light ε = omega arith
unlet_light (t ⊳ ts) = by (is_shed t) (unlet_light ts)
  where
    by : (b : Bool) → weight_all (unlet ts) ≤ weight_all ts → weight_all (if b then unlet ts else t ⊳ unlet ts) ≤ weight t + weight_all ts
    by true h = omega (arith, h)
    by false h = omega (arith, h)

unlet_lighter : (ts : Forest) → has_shed ts ≡ true → weight_all (unlet ts) < weight_all ts
unlet_lighter ε e = absurd (false≢true e)
unlet_lighter (t ⊳ ts) e = by (λ h. unlet_lighter ts h) (is_shed t) refl e
  where
    by : (has_shed ts ≡ true → weight_all (unlet ts) < weight_all ts) → (b : Bool) → is_shed t ≡ b → (b || has_shed ts) ≡ true → weight_all (if b then unlet ts else t ⊳ unlet ts) < weight t + weight_all ts
    by f true i h = omega (arith, shed_heavy t i, unlet_light ts)
    by f false i h = omega (arith, f h)

unlet_moves : (ts : Forest) → movable (unlet ts) ≤ movable ts
unlet_moves ε = omega arith
unlet_moves (t ⊳ ts) = by (is_shed t) (unlet_moves ts)
  where
    goes : (c : Bool) → movable (unlet ts) ≤ movable ts → movable (unlet ts) ≤ (if c then movable ts else suc (movable ts))
    goes true h = h
    goes false h = omega (arith, h)

    keep : (c : Bool) → movable (unlet ts) ≤ movable ts → (if c then movable (unlet ts) else suc (movable (unlet ts))) ≤ (if c then movable ts else suc (movable ts))
    keep true h = h
    keep false h = omega (arith, h)

    by : (b : Bool) → movable (unlet ts) ≤ movable ts → movable (if b then unlet ts else t ⊳ unlet ts) ≤ (if stays_behind t then movable ts else suc (movable ts))
    by true h = goes (stays_behind t) h
    by false h = keep (stays_behind t) h

unlet_reached : (ts : Forest) → unreached (unlet ts) ≤ unreached ts
unlet_reached ε = omega arith
unlet_reached (t ⊳ ts) = by (is_shed t) refl (unlet_reached ts)
  where
    keep : (b : Bool) → unreached (unlet ts) ≤ unreached ts → (if b then movable (unlet ts) else unreached (unlet ts)) ≤ (if b then movable ts else unreached ts)
    keep true h = unlet_moves ts
    keep false h = h

    by : (b : Bool) → is_shed t ≡ b → unreached (unlet ts) ≤ unreached ts → unreached (if b then unlet ts else t ⊳ unlet ts) ≤ (if is_stopper t then movable ts else unreached ts)
    by true i h = subst (λ c. unreached (unlet ts) ≤ (if c then movable ts else unreached ts)) (sym (shed_runs t i)) h
    by false i h = keep (is_stopper t) h

body_lighter : (ss : List Span) (ts : Forest) → has_shed ts ≡ true → weight (node CaseBody ss (unlet ts)) < weight (node CaseBody ss ts)
unfolding own_weight
body_lighter ss ts e = omega (arith, unlet_lighter ts e, unlet_reached ts)

cases_light : {b : Bool} {ks ls : List Clause} → Sheds b ks ls → weight_all (trees_of ls) ≤ weight_all (trees_of ks)
cases_light no_case = omega arith
cases_light (case_stays k s) = omega (arith, cases_light s)
cases_light (case_sheds k f a h s) = omega (arith, body_lighter k.spans k.body h, cases_light s)

cases_lighter : {ks ls : List Clause} → Sheds true ks ls → weight_all (trees_of ls) < weight_all (trees_of ks)
cases_lighter (case_stays k s) = omega (arith, cases_lighter s)
cases_lighter (case_sheds k f a h s) = omega (arith, body_lighter k.spans k.body h, cases_light s)

-- the `switch` keeps and spares what a pass may not touch

unlet_step : {N : Type 0} {P : Name → Type 0} → N → (ss : List Span) (d : Tree) {ks ls : List Clause} → Sheds true ks ls → Step N P (switch_tree ss d ks) (node (Switch (kinds_of ks)) ss (d ⊳ trees_of ls))
unfolding own_weight
unlet_step n ss d {ks} {ls} s =
    let c = tree_stays {t = d} (sheds_cases 0 s).sheds in
    record {
      keeps = thinned_keeps (inside {l = Switch (kinds_of ks)} {ss = ss} (cases_thin c (all_itself (d ⊳ trees_of ls))).thins);
      spares = spares_plain (statement_plain (switch_tree ss d ks) refl) (statement_plain (node (Switch (kinds_of ks)) ss (d ⊳ trees_of ls)) refl) (spared_path (cases_vars c));
      lowers = statement_lowers n refl refl (omega (arith, cases_lighter s)) (λ i. absurd (false≢true i));
    }

pub shed_owes : {N : Type 0} {P : Name → Type 0} {mark : ℕ} {t u : Tree} → N → ShedStep mark t u → Step N P t u
shed_owes {N} {P} {t = t} {u = u} n s =
    let r = shedded s in
    subst (λ z. Step N P z u) (sym r.was) (subst (λ z. Step N P (switch_tree r.spans r.given r.before) z) (sym (r.is ∙ ap (λ ds. node (Switch ds) r.spans (r.given ⊳ trees_of r.behind)) (sheds_kinds r.sheds))) (unlet_step n r.spans r.given r.sheds))
