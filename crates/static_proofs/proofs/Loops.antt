-- A loop whose parts are fine is kept.
use Rattle.std.proofs.Common.{◌≡◌, ◌≤◌, Bool, true, false, not, ◌&&◌, List, [], ◌++◌, refl, sym, subst, ◌∙◌, arith}
use Rattle.std.proofs.lemmas.Bool.{and_parts, and_from, false≢true}
use Rattle.swc_ast.specs.declared.Span.{Span}
use Rattle.swc_ast.specs.Tree.{Name, BoolLit, Absent, While, For, Tree, node, Forest, ε, ◌⊳◌}
use Rattle.swc_ast.specs.Scope.{vars, vars_all, is_found}
use Rattle.swc_ast.specs.Meaning.{head_names, first_tree}
use Rattle.swc_ast.specs.Valid.{valid, valid_all, is_listed, none_listed, last_not_listed}
use Rattle.swc_ast.specs.Resolved.{first_names, own_scopes, scopes_all, Targets, in_loop, aimed, aimed_all, apart, apart_all}
use Rattle.swc_ast.specs.Core.{once_each, none_in, list_names, fits, fits_all}
use Rattle.static_proofs.specs.Names.{Within, Fewer, names_of}
use Rattle.static_proofs.specs.Keeps.{Keeps}
use Rattle.static_proofs.specs.Fine.{Fine}
use Rattle.static_proofs.proofs.Names.{within_same, within_none, within_append, fewer_same, fewer_none, fewer_append, fewer_within, found_first, once_fewer, none_within}
use Rattle.static_proofs.proofs.Inside.{one_if_kept}
use Rattle.static_proofs.proofs.Parts.{names_cons}

pub fine_kept : {t u : Tree} → Keeps t u → Fine t u
fine_kept k = record { scopes_fine = k.scopes_kept; vars_fine = k.vars_kept; names_fine = k.names_kept; listed_fine = k.listed_kept; valid_fine = k.valid_kept; aimed_fine = k.aimed_kept; apart_fine = k.apart_kept; fits_fine = k.fits_kept }

pub fine_gone : (t : Tree) (rs : List Span) → Fine t (node Absent rs ε)
unfolding own_scopes
fine_gone t rs = record { scopes_fine = λ x. omega arith; vars_fine = within_none (vars t); names_fine = fewer_none (names_of t); listed_fine = λ h. absurd (false≢true h); valid_fine = λ h. refl; aimed_fine = λ g h. refl; apart_fine = λ h. refl; fits_fine = λ h. refl }

pub fine_truth : (t : Tree) (b : Bool) (rs : List Span) → Fine t (node (BoolLit b) rs ε)
unfolding own_scopes
fine_truth t b rs = record { scopes_fine = λ x. omega arith; vars_fine = within_none (vars t); names_fine = fewer_none (names_of t); listed_fine = λ h. absurd (false≢true h); valid_fine = λ h. refl; aimed_fine = λ g h. refl; apart_fine = λ h. refl; fits_fine = λ h. refl }

pub data AllFine : Forest → Forest → Type 0 where
  none_fine : AllFine ε ε
  more_fine : {t u : Tree} {ts us : Forest} → Fine t u → AllFine ts us → AllFine (t ⊳ ts) (u ⊳ us)

fine_scopes : (x : Name) {ts us : Forest} → AllFine ts us → scopes_all x us ≤ scopes_all x ts
fine_scopes x none_fine = omega arith
fine_scopes x (more_fine k ks) = omega (arith, k.scopes_fine x, fine_scopes x ks)

fine_vars : {ts us : Forest} → AllFine ts us → Within (vars_all us) (vars_all ts)
fine_vars none_fine = within_same []
fine_vars (more_fine k ks) = within_append k.vars_fine (fine_vars ks)

fine_head : {ts us : Forest} → AllFine ts us → Fewer (first_names (head_names (first_tree us))) (first_names (head_names (first_tree ts)))
fine_head none_fine = fewer_same []
fine_head (more_fine {t = t} {u = u} k ks) = subst (λ z. Fewer z (list_names (t ⊳ ε))) (sym (names_cons u ε)) (subst (λ z. Fewer (names_of u ++ []) z) (sym (names_cons t ε)) (fewer_append k.names_fine (fewer_same [])))

fine_not_listed : {t u : Tree} → Fine t u → not (is_listed t) ≡ true → not (is_listed u) ≡ true
fine_not_listed {t} {u} k h = by_case (is_listed u) (is_listed t) k.listed_fine h
  where
    by_case : (b c : Bool) → (b ≡ true → c ≡ true) → not c ≡ true → not b ≡ true
    by_case false c f h' = refl
    by_case true true f h' = h'
    by_case true false f h' = absurd (false≢true (f refl))

fine_none_listed : {ts us : Forest} → AllFine ts us → none_listed ts ≡ true → none_listed us ≡ true
fine_none_listed none_fine h = refl
fine_none_listed (more_fine {t = t} {u = u} {ts = ts} {us = us} k ks) h = let p = and_parts (not (is_listed t)) (none_listed ts) h in and_from (not (is_listed u)) (none_listed us) (fine_not_listed k p.0) (fine_none_listed ks p.1)

fine_last_listed : {ts us : Forest} → AllFine ts us → last_not_listed ts ≡ true → last_not_listed us ≡ true
fine_last_listed none_fine h = refl
fine_last_listed (more_fine k none_fine) h = fine_not_listed k h
fine_last_listed (more_fine k (more_fine j ks)) h = fine_last_listed (more_fine j ks) h

fine_valid : {ts us : Forest} → AllFine ts us → valid_all ts ≡ true → valid_all us ≡ true
fine_valid none_fine h = refl
fine_valid (more_fine {t = t} {u = u} {ts = ts} {us = us} k ks) h = let p = and_parts (valid t) (valid_all ts) h in and_from (valid u) (valid_all us) (k.valid_fine p.0) (fine_valid ks p.1)

fine_aimed : (g : Targets) {ts us : Forest} → AllFine ts us → aimed_all g ts ≡ true → aimed_all g us ≡ true
fine_aimed g none_fine h = refl
fine_aimed g (more_fine {t = t} {u = u} {ts = ts} {us = us} k ks) h = let p = and_parts (aimed g t) (aimed_all g ts) h in and_from (aimed g u) (aimed_all g us) (k.aimed_fine g p.0) (fine_aimed g ks p.1)

fine_apart : {ts us : Forest} → AllFine ts us → apart_all ts ≡ true → apart_all us ≡ true
fine_apart none_fine h = refl
fine_apart (more_fine {t = t} {u = u} {ts = ts} {us = us} k ks) h = let p = and_parts (apart t) (apart_all ts) h in and_from (apart u) (apart_all us) (k.apart_fine p.0) (fine_apart ks p.1)

fine_fits : {ts us : Forest} → AllFine ts us → fits_all ts ≡ true → fits_all us ≡ true
fine_fits none_fine h = refl
fine_fits (more_fine {t = t} {u = u} {ts = ts} {us = us} k ks) h = let p = and_parts (fits t) (fits_all ts) h in and_from (fits u) (fits_all us) (k.fits_fine p.0) (fine_fits ks p.1)

pub for_keeps : (ss : List Span) {ts us : Forest} → AllFine ts us → Keeps (node For ss ts) (node For ss us)
unfolding own_scopes
for_keeps ss {ts} {us} ks = record {
  scopes_kept = λ x. omega (arith, fine_scopes x ks, one_if_kept (is_found x (head_names (first_tree ts))) (is_found x (head_names (first_tree us))) (λ e. found_first x (head_names (first_tree ts)) ∙ (fewer_within (fine_head ks)).by x (sym (found_first x (head_names (first_tree us))) ∙ e)));
  vars_kept = fine_vars ks;
  names_kept = fewer_same [];
  own_kept = fewer_same [];
  frame_kept = refl;
  part_kept = tt;
  listed_kept = λ h. h;
  valid_kept = λ h. let p = and_parts (last_not_listed ts) (valid_all ts) h in and_from (last_not_listed us) (valid_all us) (fine_last_listed ks p.0) (fine_valid ks p.1);
  aimed_kept = λ g h. fine_aimed (in_loop g) ks h;
  apart_kept = fine_apart ks;
  fits_kept = λ h.
      let a = first_names (head_names (first_tree ts)) in
      let b = first_names (head_names (first_tree us)) in
      let p = and_parts (once_each a a && none_in a (vars_all ts)) (fits_all ts) h in
      let q = and_parts (once_each a a) (none_in a (vars_all ts)) p.0 in
      and_from (once_each b b && none_in b (vars_all us)) (fits_all us) (and_from (once_each b b) (none_in b (vars_all us)) (once_fewer (fine_head ks) q.0) (none_within (fewer_within (fine_head ks)) (fine_vars ks) q.1)) (fine_fits ks p.1);
}

pub while_keeps : (ss : List Span) {ts us : Forest} → AllFine ts us → Keeps (node While ss ts) (node While ss us)
unfolding own_scopes
while_keeps ss {ts} {us} ks = record {
  scopes_kept = λ x. omega (arith, fine_scopes x ks);
  vars_kept = fine_vars ks;
  names_kept = fewer_same [];
  own_kept = fewer_same [];
  frame_kept = refl;
  part_kept = tt;
  listed_kept = λ h. h;
  valid_kept = λ h. let p = and_parts (none_listed ts) (valid_all ts) h in and_from (none_listed us) (valid_all us) (fine_none_listed ks p.0) (fine_valid ks p.1);
  aimed_kept = λ g h. fine_aimed (in_loop g) ks h;
  apart_kept = fine_apart ks;
  fits_kept = fine_fits ks;
}
