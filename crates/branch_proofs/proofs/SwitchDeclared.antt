-- What a switch becomes declares the same `var`s, and nothing else.
use Rattle.std.proofs.Common.{◌≡◌, ℕ, Bool, true, false, not, ◌||◌, if◌then◌else◌, List, [], ◌∷◌, ◌++◌, None, refl, sym, ap, ap₂, ◌∙◌}
use Rattle.std.proofs.lemmas.Bool.{false≢true, and_parts}
use Rattle.swc_ast.specs.declared.Span.{Span}
use Rattle.swc_ast.specs.Tree.{Name, FnDecl, Break, Absent, CaseBody, Block, Tree, node, Forest, ε, ◌⊳◌, label_of}
use Rattle.swc_ast.specs.Scope.{has_name, vars, vars_all, declared_by, declared, joined}
use Rattle.meaning_proofs.proofs.Finds.{has_cons, has_joined}
use Rattle.branch_proofs.proofs.Becoming.{SameVars}
use Rattle.branch_rules.specs.Switches.{breaking, functions_of, others_of, Unbroken, no_break, break_goes, stops_before, Clause, trees_of, bodies_of, switch_tree, has_test, have_tests, is_discriminant, SwitchStep, nothing_left, only_default, only_default_apart, selected_case, selected_default, none_selected, leading_go}
use Rattle.branch_rules.specs.Statements.{is_absent}
use Rattle.branch_rules.specs.Jumps.{escapes}
use Rattle.branch_rules.specs.Vars.{VarsOf}
use Rattle.swc_utils.proofs.Chains.{joined_assoc}
use Rattle.swc_ast.specs.Labels.{is_expression}
use Rattle.branch_proofs.proofs.Labelled.{expression_vars}
use Rattle.branch_proofs.proofs.Selected.{tests_behind}
use Rattle.branch_proofs.proofs.Declared.{one, or_last, none_first, all_declare}
use Rattle.branch_proofs.proofs.Switches.{only_body}
use Rattle.branch_proofs.proofs.Tests.{none_declared, alone_vars, alone_declares}
use Rattle.branch_proofs.proofs.Vars.{vars_kept, vars_declare}

absent_names : (t : Tree) → is_absent t ≡ true → vars t ≡ []
absent_names (node Absent ss cs) h = refl
absent_names _ h = absurd (false≢true h)

test_names : (b : Bool) (t : Tree) → (if b then is_absent t else is_expression (label_of t)) ≡ true → vars t ≡ []
test_names true t h = absent_names t h
test_names false t h = expression_vars t h

pub test_vars : (k : Clause) → has_test k ≡ true → vars k.test ≡ []
test_vars k h = test_names k.is_default k.test h

pub discriminant_vars : (d : Tree) → is_discriminant d ≡ true → vars d ≡ []
discriminant_vars d h = expression_vars d (and_parts (is_expression (label_of d)) (not (escapes breaking d)) h).0

trees_vars : (x : Name) (ks : List Clause) → have_tests ks ≡ true → has_name x (vars_all (trees_of ks)) ≡ has_name x (vars_all (bodies_of ks))
trees_vars x [] h = refl
trees_vars x (k ∷ ks) h =
    let p = and_parts (has_test k) (have_tests ks) h in
    has_cons x k.test (node CaseBody k.spans k.body ⊳ trees_of ks) ∙ or_last _ _ (ap (has_name x) (test_vars k p.0))
    ∙ has_cons x (node CaseBody k.spans k.body) (trees_of ks) ∙ ap (λ b. has_name x (vars_all k.body) || b) (trees_vars x ks p.1)
    ∙ sym (has_joined x k.body (bodies_of ks))

switch_vars_are : (x : Name) (ss : List Span) (t : Tree) (ks : List Clause) → is_discriminant t ≡ true → have_tests ks ≡ true → has_name x (vars (switch_tree ss t ks)) ≡ has_name x (vars_all (bodies_of ks))
switch_vars_are x ss t ks h g = has_cons x t (trees_of ks) ∙ or_last _ _ (ap (has_name x) (discriminant_vars t h)) ∙ trees_vars x ks g

-- functions declare no `var`
function_vars : (ts : Forest) → vars_all (functions_of ts) ≡ []
function_vars ε = refl
function_vars (node (FnDecl x) ss cs ⊳ ts) = function_vars ts
function_vars (t ⊳ ts) = function_vars ts

other_vars : (ts : Forest) → vars_all (others_of ts) ≡ vars_all ts
other_vars ε = refl
other_vars (node (FnDecl x) ss cs ⊳ ts) = other_vars ts
other_vars (t ⊳ ts) = ap (λ xs. vars t ++ xs) (other_vars ts)

or_round : (o p : Bool) → (o || (p || false)) ≡ (p || o)
or_round true true = refl
or_round true false = refl
or_round false true = refl
or_round false false = refl

or_turned : (o p v : Bool) → (o || (p || (v || false))) ≡ (p || (v || o))
or_turned true true v = refl
or_turned true false true = refl
or_turned true false false = refl
or_turned false true v = refl
or_turned false false true = refl
or_turned false false false = refl

-- the `var`s of what goes and what stays
unbroken_vars : (x : Name) {whole ts gs : Forest} → Unbroken whole ts gs → (has_name x (vars_all gs) || has_name x (vars_all ts)) ≡ has_name x (vars_all whole)
unbroken_vars x (no_break ts e) = refl
unbroken_vars x (break_goes ts ss us e) =
    ap₂ ◌||◌ (ap (has_name x) (other_vars us)) (has_joined x ts (functions_of us) ∙ ap (λ xs. has_name x (vars_all ts) || has_name x xs) (function_vars us))
    ∙ or_round (has_name x (vars_all us)) (has_name x (vars_all ts)) ∙ sym (has_joined x ts (node (Break None) ss ε ⊳ us))
unbroken_vars x (stops_before ts t us e h f) =
    ap₂ ◌||◌ (ap (has_name x) (other_vars us)) (has_joined x ts (t ⊳ functions_of us) ∙ ap (λ b. has_name x (vars_all ts) || b) (has_cons x t (functions_of us) ∙ ap (λ xs. has_name x (vars t) || has_name x xs) (function_vars us)))
    ∙ or_turned (has_name x (vars_all us)) (has_name x (vars_all ts)) (has_name x (vars t)) ∙ sym (has_joined x ts (t ⊳ us) ∙ ap (λ b. has_name x (vars_all ts) || b) (has_cons x t us))

pub bodies_behind : (fs ks : List Clause) → bodies_of (fs ++ ks) ≡ joined (bodies_of fs) (bodies_of ks)
bodies_behind [] ks = refl
bodies_behind (k ∷ fs) ks = ap (joined k.body) (bodies_behind fs ks) ∙ sym (joined_assoc k.body (bodies_of fs) (bodies_of ks))

or_chained : (a b c : Bool) → ((a || b) || c) ≡ (a || (b || c))
or_chained true b c = refl
or_chained false b c = refl

-- nothing of what stays is lost
only_vars : (x : Name) {whole ts gs : Forest} → Unbroken whole ts gs → vars_all gs ≡ [] → has_name x (vars_all ts) ≡ has_name x (vars_all whole)
only_vars x {ts = ts} u e = ap (λ xs. has_name x xs || has_name x (vars_all ts)) (sym e) ∙ unbroken_vars x u

parted_vars : (x : Name) (fs ks : List Clause) {ts gs vs : Forest} → Unbroken (bodies_of ks) ts gs → VarsOf (joined (bodies_of fs) gs) vs → has_name x (vars_all (joined vs ts)) ≡ has_name x (vars_all (bodies_of (fs ++ ks)))
parted_vars x fs ks {ts} {gs} {vs} u o =
    has_joined x vs ts ∙ ap (λ b. b || has_name x (vars_all ts)) (vars_kept (joined (bodies_of fs) gs) o x ∙ has_joined x (bodies_of fs) gs)
    ∙ or_chained (has_name x (vars_all (bodies_of fs))) (has_name x (vars_all gs)) (has_name x (vars_all ts))
    ∙ ap (λ b. has_name x (vars_all (bodies_of fs)) || b) (unbroken_vars x u)
    ∙ sym (ap (λ bs. has_name x (vars_all bs)) (bodies_behind fs ks) ∙ has_joined x (bodies_of fs) (bodies_of ks))

same_vars : (t : Tree) (us : Forest) → ((x : Name) → has_name x (vars t) ≡ has_name x (vars_all us)) → declared_by t ≡ [] → declared us ≡ [] → SameVars t us
same_vars t us h b d = record { vars = h; before = b; behind = d }

pub switch_vars : {mark : ℕ} {t : Tree} {us : Forest} → SwitchStep mark t us → SameVars t us
switch_vars (nothing_left ss t ks {es} {vs} h g p r e a q) = same_vars _ _ (λ x. switch_vars_are x ss t ks h g ∙ sym (none_first x es vs (alone_vars a) ∙ vars_kept (bodies_of ks) q x)) refl (none_declared es vs (alone_declares a) (vars_declare q))
switch_vars (only_default ss t fs k {es} {ts} h g p i j w a u v q z l y) = same_vars _ _ (λ x. switch_vars_are x ss t (fs ++ k ∷ []) h g ∙ ap (λ bs. has_name x (vars_all bs)) (only_body fs k j) ∙ sym (none_first x es ts (alone_vars a) ∙ only_vars x u v)) refl (none_declared es ts (alone_declares a) (all_declare ts l))
switch_vars (only_default_apart ss us t fs k {es} {ts} h g p i j w a u v q z) = same_vars _ _ (λ x. switch_vars_are x ss t (fs ++ k ∷ []) h g ∙ ap (λ bs. has_name x (vars_all bs)) (only_body fs k j) ∙ sym (none_first x es (node Block us ts ⊳ ε) (alone_vars a) ∙ one x (node Block us ts) ∙ only_vars x u v)) refl (none_declared es (node Block us ts ⊳ ε) (alone_declares a) refl)
switch_vars (selected_case ss us t v w fs k ks {ts} {gs} {vs} h g p e r i j l m u q o z) = same_vars _ _ (λ x. switch_vars_are x ss t (fs ++ k ∷ ks) h g ∙ sym (one x (node Block us (joined vs ts)) ∙ parted_vars x fs (k ∷ ks) u o)) refl refl
switch_vars (selected_default ss us t v fs k ks {ts} {gs} {vs} h g p e r i j u q o z) = same_vars _ _ (λ x. switch_vars_are x ss t (fs ++ k ∷ ks) h g ∙ sym (one x (node Block us (joined vs ts)) ∙ parted_vars x fs (k ∷ ks) u o)) refl refl
switch_vars (none_selected ss t v ks h g p e r i d q) = same_vars _ _ (λ x. switch_vars_are x ss t ks h g ∙ sym (vars_kept (bodies_of ks) q x)) refl (vars_declare q)
switch_vars (leading_go ss us rs t v fs ks {vs} h g e r i q o z) = same_vars _ _ (λ x. switch_vars_are x ss t (fs ++ ks) h g ∙ sym (has_joined x vs (switch_tree us t ks ⊳ ε) ∙ ap₂ ◌||◌ (vars_kept (bodies_of fs) o x) (one x (switch_tree us t ks) ∙ switch_vars_are x us t ks h (tests_behind fs ks g)) ∙ sym (ap (λ bs. has_name x (vars_all bs)) (bodies_behind fs ks) ∙ has_joined x (bodies_of fs) (bodies_of ks)))) refl (none_declared vs (switch_tree us t ks ⊳ ε) (vars_declare o) refl)
