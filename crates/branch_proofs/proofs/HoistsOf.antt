-- The declaration that stays of statements that go is one of their `var` names.
use Rattle.std.proofs.Common.{◌≡◌, suc, ◌≤◌, Bool, true, false, if◌then◌else◌, List, [], ◌∷◌, length, refl, sym, ap, ◌∙◌, arith}
use Rattle.swc_ast.specs.Tree.{Name, Forest}
use Rattle.swc_ast.specs.Scope.{has_name, vars_all, declarator_names}
use Rattle.swc_ast.specs.Valid.{count}
use Rattle.static_proofs.specs.Names.{Within}
use Rattle.branch_rules.specs.Vars.{each_once, Unset, no_more, one_more, Declares, none_declared, some_declared, VarsOf}
use Rattle.branch_proofs.proofs.ListForms.{are_bare, Hoists, no_vars, some_vars}
use Rattle.branch_proofs.proofs.Vars.{left_has}

pub unset_bare : {xs : List Name} {ds : Forest} → Unset xs ds → are_bare ds ≡ true
unset_bare no_more = refl
unset_bare (one_more x ss u) = unset_bare u

pub unset_names : {xs : List Name} {ds : Forest} → Unset xs ds → declarator_names ds ≡ xs
unset_names no_more = refl
unset_names (one_more x ss u) = ap (λ ys. x ∷ ys) (unset_names u)

pub unset_count : {xs : List Name} {ds : Forest} → Unset xs ds → count ds ≡ length xs
unset_count no_more = refl
unset_count (one_more x ss u) = ap suc (unset_count u)

pub once_fewer : (seen xs : List Name) → length (each_once seen xs) ≤ length xs
once_fewer seen [] = omega arith
once_fewer seen (x ∷ xs) = by_seen (has_name x seen) (once_fewer seen xs) (once_fewer (x ∷ seen) xs)
  where
    by_seen : (b : Bool) → length (each_once seen xs) ≤ length xs → length (each_once (x ∷ seen) xs) ≤ length xs → length (if b then each_once seen xs else x ∷ each_once (x ∷ seen) xs) ≤ suc (length xs)
    by_seen true h i = omega arith
    by_seen false h i = omega arith

pub once_none : (xs : List Name) → [] ≡ each_once [] xs → xs ≡ []
once_none [] h = refl
once_none (x ∷ xs) h = cc

pub within_has : (xs ys : List Name) → ((x : Name) → has_name x xs ≡ has_name x ys) → Within xs ys
within_has xs ys h = record { by = λ x e. sym (h x) ∙ e }

module _ (ts : Forest) where
  pub hoists_by : {xs : List Name} {hs : Forest} → Declares xs hs → xs ≡ each_once [] (vars_all ts) → Hoists ts hs
  hoists_by none_declared e = no_vars (once_none (vars_all ts) e)
  hoists_by (some_declared ss {x} {xs} {ds} u) e =
      let same : (y : Name) → has_name y (declarator_names ds) ≡ has_name y (vars_all ts) = λ y. ap (has_name y) (unset_names u ∙ e) ∙ left_has y (vars_all ts) in
      some_vars (unset_bare u) (within_has (declarator_names ds) (vars_all ts) same) (within_has (vars_all ts) (declarator_names ds) (λ y. sym (same y)))
      (omega (arith, unset_count u)) (omega (arith, unset_count u, ap length e, once_fewer [] (vars_all ts)))

  pub hoists_of : {hs : Forest} → VarsOf ts hs → Hoists ts hs
  hoists_of h = hoists_by h refl
