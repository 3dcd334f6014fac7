-- What is taken of the cases of a switch keeps what the switch declares.
use Rattle.std.proofs.Common.{◌≡◌, ◌+◌, ◌≤◌, true, List, [], ◌++◌, refl, sym, subst, ◌∙◌, arith, ◌⊎◌, inl, inr}
use Rattle.std.proofs.lemmas.Bool.{and_parts, and_from, or_cases, or_left, or_right}
use Rattle.swc_ast.specs.Tree.{Name, Label, CaseBody, node, Forest, ε, ◌⊳◌}
use Rattle.swc_ast.specs.Scope.{has_name, vars, vars_all, joined, body_statements, case_statements}
use Rattle.swc_ast.specs.Valid.{valid, valid_all}
use Rattle.swc_ast.specs.Resolved.{own_scopes, scopes_all, Targets, aimed, aimed_all, apart, apart_all}
use Rattle.swc_ast.specs.Core.{list_names, fits, fits_all}
use Rattle.swc_ast.specs.Weight.{own_weight, weight_all}
use Rattle.static_proofs.specs.Names.{Within, Fewer}
use Rattle.static_proofs.specs.Keeps.{more_kept, none_kept}
use Rattle.static_proofs.specs.Together.{without_own, KeepsAll}
use Rattle.static_proofs.proofs.Names.{within_same, within_append, within_trans, within_second, fewer_same, fewer_append, fewer_trans, fewer_second, has_name_append}
use Rattle.static_proofs.proofs.Parts.{vars_joined, names_joined}
use Rattle.static_proofs.proofs.Kept.{keeps_itself}
use Rattle.static_proofs.proofs.Drawn.{scopes_joined, weight_joined, valid_joined, aimed_joined, apart_joined, fits_joined, valid_below, apart_below, fits_below}
use Rattle.static_proofs.proofs.Together.{together, all_dropped, kept_joined}
use Rattle.branch_proofs.proofs.SwitchForms.{Parts, no_parts, part_in, part_out, Takes, takes_none, test_out, case_in}
use Rattle.branch_proofs.proofs.BranchesOwe.{PartedNames}

pub parts_kept : {ts us vs : Forest} → Parts ts us vs → KeepsAll ts us
parts_kept no_parts = all_dropped ε
parts_kept (part_in {t = t} h) = kept_joined (together (more_kept (keeps_itself t) none_kept)) (parts_kept h)
parts_kept (part_out {t = t} h) = kept_joined (all_dropped (t ⊳ ε)) (parts_kept h)

parts_weight : {ts us vs : Forest} → Parts ts us vs → weight_all us + weight_all vs ≡ weight_all ts
parts_weight no_parts = refl
parts_weight (part_in h) = omega (arith, parts_weight h)
parts_weight (part_out h) = omega (arith, parts_weight h)

parts_valid : {ts us vs : Forest} → Parts ts us vs → valid_all ts ≡ true → valid_all vs ≡ true
parts_valid no_parts e = refl
parts_valid (part_in {t = t} {ts = ts} h) e = parts_valid h (and_parts (valid t) (valid_all ts) e).1
parts_valid (part_out {t = t} {ts = ts} {vs = vs} h) e = let p = and_parts (valid t) (valid_all ts) e in and_from (valid t) (valid_all vs) p.0 (parts_valid h p.1)

-- where each name of a joined list stands
pub in_front : (x : Name) (xs ys : List Name) → has_name x xs ≡ true → has_name x (xs ++ ys) ≡ true
in_front x xs ys h = has_name_append x xs ys ∙ or_left (has_name x xs) (has_name x ys) h

pub in_back : (x : Name) (xs ys : List Name) → has_name x ys ≡ true → has_name x (xs ++ ys) ≡ true
in_back x xs ys h = has_name_append x xs ys ∙ or_right (has_name x xs) (has_name x ys) h

pub in_either : (x : Name) (xs ys : List Name) → has_name x (xs ++ ys) ≡ true → (has_name x xs ≡ true) ⊎ (has_name x ys ≡ true)
in_either x xs ys h = or_cases (has_name x xs) (has_name x ys) (sym (has_name_append x xs ys) ∙ h)

parts_vars : {ts us vs : Forest} → Parts ts us vs → PartedNames (vars_all ts) (vars_all us) (vars_all vs)
parts_vars no_parts = record { first_in = within_same []; second_in = within_same []; parted = λ x h. inl h }
parts_vars (part_in {t = t} {ts = ts} {us = us} {vs = vs} k) = record { first_in = within_append (within_same (vars t)) (parts_vars k).first_in; second_in = within_trans (parts_vars k).second_in (within_second (vars t) (vars_all ts)); parted = λ x h. by_place x (parts_vars k).parted (in_either x (vars t) (vars_all ts) h) }
  where
    by_rest : (x : Name) → (has_name x (vars_all us) ≡ true) ⊎ (has_name x (vars_all vs) ≡ true) → (has_name x (vars t ++ vars_all us) ≡ true) ⊎ (has_name x (vars_all vs) ≡ true)
    by_rest x (inl e) = inl (in_back x (vars t) (vars_all us) e)
    by_rest x (inr e) = inr e

    by_place : (x : Name) → ((y : Name) → has_name y (vars_all ts) ≡ true → (has_name y (vars_all us) ≡ true) ⊎ (has_name y (vars_all vs) ≡ true)) → (has_name x (vars t) ≡ true) ⊎ (has_name x (vars_all ts) ≡ true) → (has_name x (vars t ++ vars_all us) ≡ true) ⊎ (has_name x (vars_all vs) ≡ true)
    by_place x f (inl e) = inl (in_front x (vars t) (vars_all us) e)
    by_place x f (inr e) = by_rest x (f x e)
parts_vars (part_out {t = t} {ts = ts} {us = us} {vs = vs} k) = record { first_in = within_trans (parts_vars k).first_in (within_second (vars t) (vars_all ts)); second_in = within_append (within_same (vars t)) (parts_vars k).second_in; parted = λ x h. by_place x (parts_vars k).parted (in_either x (vars t) (vars_all ts) h) }
  where
    by_rest : (x : Name) → (has_name x (vars_all us) ≡ true) ⊎ (has_name x (vars_all vs) ≡ true) → (has_name x (vars_all us) ≡ true) ⊎ (has_name x (vars t ++ vars_all vs) ≡ true)
    by_rest x (inl e) = inl e
    by_rest x (inr e) = inr (in_back x (vars t) (vars_all vs) e)

    by_place : (x : Name) → ((y : Name) → has_name y (vars_all ts) ≡ true → (has_name y (vars_all us) ≡ true) ⊎ (has_name y (vars_all vs) ≡ true)) → (has_name x (vars t) ≡ true) ⊎ (has_name x (vars_all ts) ≡ true) → (has_name x (vars_all us) ≡ true) ⊎ (has_name x (vars t ++ vars_all vs) ≡ true)
    by_place x f (inl e) = inr (in_front x (vars t) (vars_all vs) e)
    by_place x f (inr e) = by_rest x (f x e)

-- names of what is taken, and of what goes
parted_append : {xs ys zs us vs ws : List Name} → PartedNames xs ys zs → PartedNames us vs ws → PartedNames (xs ++ us) (ys ++ vs) (zs ++ ws)
parted_append {xs} {ys} {zs} {us} {vs} {ws} h k = record { first_in = within_append h.first_in k.first_in; second_in = within_append h.second_in k.second_in; parted = λ x e. by_place x (in_either x xs us e) }
  where
    first_place : (x : Name) → (has_name x ys ≡ true) ⊎ (has_name x zs ≡ true) → (has_name x (ys ++ vs) ≡ true) ⊎ (has_name x (zs ++ ws) ≡ true)
    first_place x (inl e) = inl (in_front x ys vs e)
    first_place x (inr e) = inr (in_front x zs ws e)

    second_place : (x : Name) → (has_name x vs ≡ true) ⊎ (has_name x ws ≡ true) → (has_name x (ys ++ vs) ≡ true) ⊎ (has_name x (zs ++ ws) ≡ true)
    second_place x (inl e) = inl (in_back x ys vs e)
    second_place x (inr e) = inr (in_back x zs ws e)

    by_place : (x : Name) → (has_name x xs ≡ true) ⊎ (has_name x us ≡ true) → (has_name x (ys ++ vs) ≡ true) ⊎ (has_name x (zs ++ ws) ≡ true)
    by_place x (inl e) = first_place x (h.parted x e)
    by_place x (inr e) = second_place x (k.parted x e)

pub takes_vars : {cs ws ds : Forest} → Takes cs ws ds → PartedNames (vars_all cs) (vars_all ws) (vars_all ds)
takes_vars takes_none = record { first_in = within_same []; second_in = within_same []; parted = λ x h. inl h }
takes_vars (test_out {t = t} {cs = cs} {ws = ws} {ds = ds} e k) = subst (λ xs. PartedNames (xs ++ vars_all cs) (vars_all ws) (vars_all ds)) (sym e) (takes_vars k)
takes_vars (case_in {is = is} {us = us} {vs = vs} {cs = cs} {ws = ws} {ds = ds} p k) = subst (λ xs. PartedNames (vars_all is ++ vars_all cs) xs (vars_all (joined vs ds))) (sym (vars_joined us ws)) (subst (λ xs. PartedNames (vars_all is ++ vars_all cs) (vars_all us ++ vars_all ws) xs) (sym (vars_joined vs ds)) (parted_append (parts_vars p) (takes_vars k)))

-- both within the statements of the cases
pub takes_statements : {cs ws ds : Forest} → Takes cs ws ds → (Within (vars_all ws) (vars_all (case_statements cs))) × (Within (vars_all ds) (vars_all (case_statements cs)))
takes_statements takes_none = (within_same [], within_same [])
takes_statements (test_out {t = node l ss is} {cs = cs} e k) = (within_trans (takes_statements k).0 (behind_vars l is cs), within_trans (takes_statements k).1 (behind_vars l is cs))
  where
    behind_vars : (l : Label) (is cs : Forest) → Within (vars_all (case_statements cs)) (vars_all (joined (body_statements l is) (case_statements cs)))
    behind_vars l is cs = subst (λ xs. Within (vars_all (case_statements cs)) xs) (sym (vars_joined (body_statements l is) (case_statements cs))) (within_second _ _)
takes_statements (case_in {is = is} {us = us} {vs = vs} {cs = cs} {ws = ws} {ds = ds} p k) = (subst (λ xs. Within (vars_all (joined us ws)) xs) (sym (vars_joined is (case_statements cs))) (subst (λ xs. Within xs (vars_all is ++ vars_all (case_statements cs))) (sym (vars_joined us ws)) (within_append (parts_vars p).first_in (takes_statements k).0)), subst (λ xs. Within (vars_all (joined vs ds)) xs) (sym (vars_joined is (case_statements cs))) (subst (λ xs. Within xs (vars_all is ++ vars_all (case_statements cs))) (sym (vars_joined vs ds)) (within_append (parts_vars p).second_in (takes_statements k).1)))

pub takes_names : {cs ws ds : Forest} → Takes cs ws ds → Fewer (list_names ws) (list_names (case_statements cs))
takes_names takes_none = fewer_same []
takes_names (test_out {t = node l ss is} {cs = cs} e k) = fewer_trans (takes_names k) (subst (λ xs. Fewer (list_names (case_statements cs)) xs) (sym (names_joined (body_statements l is) (case_statements cs))) (fewer_second _ _))
takes_names (case_in {is = is} {us = us} {vs = vs} {cs = cs} {ws = ws} {ds = ds} p k) = subst (λ xs. Fewer (list_names (joined us ws)) xs) (sym (names_joined is (case_statements cs))) (subst (λ xs. Fewer xs (list_names is ++ list_names (case_statements cs))) (sym (names_joined us ws)) (fewer_append (parts_kept p).list_kept.names_kept (takes_names k)))

pub takes_weight : {cs ws ds : Forest} → Takes cs ws ds → weight_all ws + weight_all ds ≤ weight_all cs
unfolding own_weight
takes_weight takes_none = omega arith
takes_weight (test_out e k) = omega (arith, takes_weight k)
takes_weight (case_in {us = us} {vs = vs} {ws = ws} {ds = ds} p k) = omega (arith, takes_weight k, parts_weight p, weight_joined us ws, weight_joined vs ds)

pub takes_scopes : (x : Name) {cs ws ds : Forest} → Takes cs ws ds → scopes_all x ws ≤ scopes_all x cs
unfolding own_scopes
takes_scopes x takes_none = omega arith
takes_scopes x (test_out e k) = omega (arith, takes_scopes x k)
takes_scopes x (case_in {us = us} {ws = ws} p k) = omega (arith, takes_scopes x k, (parts_kept p).scopes_kept x, scopes_joined x us ws)

pub takes_valid : {cs ws ds : Forest} → Takes cs ws ds → valid_all cs ≡ true → (valid_all ws ≡ true) × (valid_all ds ≡ true)
takes_valid takes_none e = (refl, refl)
takes_valid (test_out {t = t} {cs = cs} e k) v = takes_valid k (and_parts (valid t) (valid_all cs) v).1
takes_valid (case_in {ss = ss} {is = is} {us = us} {vs = vs} {cs = cs} {ws = ws} {ds = ds} p k) v =
    let q = and_parts (valid (node CaseBody ss is)) (valid_all cs) v in
    let r = valid_below CaseBody ss is q.0 in
    let i = takes_valid k q.1 in
    (valid_joined us ws ((parts_kept p).valid_kept r) i.0, valid_joined vs ds (parts_valid p r) i.1)

pub takes_aimed : (g : Targets) {cs ws ds : Forest} → Takes cs ws ds → aimed_all (without_own g) cs ≡ true → aimed_all (without_own g) ws ≡ true
takes_aimed g takes_none v = refl
takes_aimed g (test_out {t = t} {cs = cs} e k) v = takes_aimed g k (and_parts (aimed (without_own g) t) (aimed_all (without_own g) cs) v).1
takes_aimed g (case_in {ss = ss} {is = is} {us = us} {cs = cs} {ws = ws} p k) v =
    let q = and_parts (aimed (without_own g) (node CaseBody ss is)) (aimed_all (without_own g) cs) v in
    aimed_joined (without_own g) us ws ((parts_kept p).aimed_kept g q.0) (takes_aimed g k q.1)

pub takes_apart : {cs ws ds : Forest} → Takes cs ws ds → apart_all cs ≡ true → apart_all ws ≡ true
takes_apart takes_none v = refl
takes_apart (test_out {t = t} {cs = cs} e k) v = takes_apart k (and_parts (apart t) (apart_all cs) v).1
takes_apart (case_in {ss = ss} {is = is} {us = us} {cs = cs} {ws = ws} p k) v = let q = and_parts (apart (node CaseBody ss is)) (apart_all cs) v in apart_joined us ws ((parts_kept p).apart_kept (apart_below CaseBody ss is q.0)) (takes_apart k q.1)

pub takes_fit : {cs ws ds : Forest} → Takes cs ws ds → fits_all cs ≡ true → fits_all ws ≡ true
takes_fit takes_none v = refl
takes_fit (test_out {t = t} {cs = cs} e k) v = takes_fit k (and_parts (fits t) (fits_all cs) v).1
takes_fit (case_in {ss = ss} {is = is} {us = us} {cs = cs} {ws = ws} p k) v = let q = and_parts (fits (node CaseBody ss is)) (fits_all cs) v in fits_joined us ws ((parts_kept p).fits_kept (fits_below CaseBody ss is q.0)) (takes_fit k q.1)
