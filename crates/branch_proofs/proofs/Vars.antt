-- The `var`s of trees that go: the same names are declared, and nothing is run.
use Rattle.std.proofs.Common.{◌≡◌, ℕ, Bool, true, false, ◌||◌, if◌then◌else◌, List, [], ◌∷◌, ◌++◌, refl, ap, ◌∙◌}
use Rattle.std.proofs.lemmas.Bool.{false≢true}
use Rattle.swc_ast.specs.Tree.{Name, same_name, Forest}
use Rattle.swc_ast.specs.Value.{Undefined, and_then, Context}
use Rattle.swc_ast.specs.Scope.{has_name, vars_all, declared}
use Rattle.swc_ast.specs.Meaning.{◌>>=◌, gives, Caller, declare, run_all, act, eval, evals}
use Rattle.meaning_proofs.proofs.Names.{same_name_eq}
use Rattle.branch_rules.specs.Statements.{all_give_nothing}
use Rattle.branch_rules.specs.Vars.{each_once, Unset, no_more, one_more, Declares, none_declared, some_declared, VarsOf}

or_seen : (a b c : Bool) → (a ≡ true → b ≡ true) → (b || c) ≡ (b || (a || c))
or_seen true true c h = refl
or_seen true false c h = absurd (false≢true (h refl))
or_seen false b c h = refl

-- what is the same behind a name that is put in front
or_moved : (a b c d : Bool) → ((a || b) || c) ≡ ((a || b) || d) → (b || (a || c)) ≡ (b || (a || d))
or_moved true true c d h = refl
or_moved true false c d h = refl
or_moved false b c d h = h

once_has : (x : Name) (seen xs : List Name) → (has_name x seen || has_name x (each_once seen xs)) ≡ (has_name x seen || has_name x xs)
once_has x seen [] = refl
once_has x seen (y ∷ xs) = by_seen (has_name y seen) refl (once_has x seen xs) (once_has x (y ∷ seen) xs)
  where
    by_seen : (b : Bool) → has_name y seen ≡ b → (has_name x seen || has_name x (each_once seen xs)) ≡ (has_name x seen || has_name x xs) → ((same_name x y || has_name x seen) || has_name x (each_once (y ∷ seen) xs)) ≡ ((same_name x y || has_name x seen) || has_name x xs) → (has_name x seen || has_name x (if b then each_once seen xs else y ∷ each_once (y ∷ seen) xs)) ≡ (has_name x seen || (same_name x y || has_name x xs))
    by_seen true e h i = h ∙ or_seen (same_name x y) (has_name x seen) (has_name x xs) (λ q. ap (λ z. has_name z seen) (same_name_eq x y q) ∙ e)
    by_seen false e h i = or_moved (same_name x y) (has_name x seen) _ _ i

-- each name once are the same names
pub left_has : (x : Name) (xs : List Name) → has_name x (each_once [] xs) ≡ has_name x xs
left_has x xs = once_has x [] xs

pub unset_vars : {xs : List Name} {ds : Forest} → Unset xs ds → vars_all ds ≡ xs
unset_vars no_more = refl
unset_vars (one_more x ss u) = ap (λ ys. x ∷ ys) (unset_vars u)

pub or_nothing : (b : Bool) → (b || false) ≡ b
or_nothing true = refl
or_nothing false = refl

pub has_alone : (x : Name) (xs : List Name) → has_name x (xs ++ []) ≡ has_name x xs
has_alone x [] = refl
has_alone x (y ∷ xs) = ap (λ b. same_name x y || b) (has_alone x xs)

-- and no more than these
pub declares_vars : {xs : List Name} {us : Forest} → Declares xs us → (x : Name) → has_name x (vars_all us) ≡ has_name x xs
declares_vars none_declared x = refl
declares_vars (some_declared ss {ds = ds} u) x = has_alone x (vars_all ds) ∙ ap (has_name x) (unset_vars u)

pub vars_kept : (ts : Forest) {us : Forest} → VarsOf ts us → (x : Name) → has_name x (vars_all us) ≡ has_name x (vars_all ts)
vars_kept ts h x = declares_vars h x ∙ left_has x (vars_all ts)

pub vars_declare : {xs : List Name} {us : Forest} → Declares xs us → declared us ≡ []
vars_declare none_declared = refl
vars_declare (some_declared ss u) = refl

pub vars_stand : {xs : List Name} {us : Forest} → Declares xs us → all_give_nothing us ≡ true
vars_stand none_declared = refl
vars_stand (some_declared ss u) = refl

module _ (mark n : ℕ) (call : Caller) where
  pub unset_run : {xs : List Name} {ds : Forest} → Unset xs ds → (c : Context) → run_all (evals mark n call ds) c ≡ gives Undefined
  unfolding run_all eval evals act declare and_then
  unset_run no_more c = refl
  unset_run (one_more x ss u) c = unset_run u c

  pub vars_run : {xs : List Name} {us : Forest} → Declares xs us → (c : Context) → run_all (evals mark n call us) c ≡ gives Undefined
  unfolding run_all eval evals act and_then
  vars_run none_declared c = refl
  vars_run (some_declared ss u) c = ap (λ m. m >>= λ v. gives Undefined) (unset_run u c)
