-- What cases become that no run comes to, before they are walked.
use Rattle.std.specs.Prelude.{ℕ, ◌≡◌, ◌≤◌, Bool, true, false, ◌||◌, List, [], ◌∷◌, ◌++◌, length, take}
use Rattle.swc_ast.specs.declared.statements.SwitchCase.{SwitchCase}
use Rattle.swc_ast.specs.Tree.{ε}
use Rattle.swc_ast.specs.Value.{Value}
use Rattle.branch_rules.specs.Lists.{all_statements}
use Rattle.branch_rules.specs.Switches.{Clause, no_default, Passed, Selects, functions_of, has_shed, unlet_case, Sheds, Ends}
use Rattle.branch_switch.specs.Clauses.{clauses}

-- a case loses `let` and `const`, if it declares some and no function; else it is as it was
pub data CaseSheds : Bool → Clause → Clause → Type 0 where
  as_it_was : (k : Clause) → CaseSheds false k k
  without_lets : (k : Clause) → functions_of k.body ≡ ε → all_statements k.body ≡ true → has_shed k.body ≡ true → CaseSheds true k (unlet_case k)

-- cases in front of others do, and the truth value says whether one did
pub data LeadingSheds (shed : Bool) (fs ks : List Clause) : List Clause → Type 0 where
  leading : (gs : List Clause) → Sheds shed fs gs → LeadingSheds shed fs ks (gs ++ ks)

-- the same of cases in front of one that is selected, and of those that are not run then
pub data AroundSheds (shed : Bool) (fs ks : List Clause) : List Clause → Type 0 where
  around : (gs ms hs is : List Clause) {b c : Bool} → ks ≡ ms ++ hs → Ends ms hs → Sheds b fs gs → Sheds c hs is → (b || c) ≡ shed → AroundSheds shed fs ks (gs ++ (ms ++ is))

-- a case that isn't `default`, and that a value passes
pub record PassedOver (mark : ℕ) (v : Value) (k : Clause) : Type 0 where
  pub over_named : k.is_default ≡ false
  pub over_passed : Passed mark v (k ∷ [])

-- as many cases in front are such ones
pub record PassedFront (mark : ℕ) (v : Value) (cs : List SwitchCase) (n : ℕ) : Type 0 where
  pub front_passed : Passed mark v (clauses (take n cs))
  pub front_named : no_default (clauses (take n cs)) ≡ true
  pub front_within : n ≤ length cs

-- what cases become of which a value is known to select some
pub data Unreached (mark : ℕ) (v : Value) (shed : Bool) : List Clause → List Clause → Type 0 where
  in_front : (fs ks : List Clause) {ls : List Clause} → Passed mark v fs → no_default fs ≡ true → LeadingSheds shed fs ks ls → Unreached mark v shed (fs ++ ks) ls
  on_both_sides : (fs ks : List Clause) {ls : List Clause} → Selects mark v fs ks → AroundSheds shed fs ks ls → Unreached mark v shed (fs ++ ks) ls
