-- A `default` that is selected whatever the value is: all cases in front of it are empty.
use Rattle.std.specs.Prelude.{ℕ, ◌≡◌, Bool, true, false, not, ◌&&◌, List, [], ◌∷◌, take, drop}
use Rattle.swc_ast.specs.declared.statements.SwitchCase.{SwitchCase}
use Rattle.swc_utils.specs.Pure.{pure, no_trees}
use Rattle.branch_rules.specs.Switches.{Clause}
use Rattle.branch_switch.specs.Clauses.{clauses}
use Rattle.branch_switch.specs.Kept.{all_fit, none_goes}

-- an empty case whose test has no effect
abbrev pub falls_through : ℕ → Clause → Bool
falls_through mark k = not k.is_default && (pure mark k.test && no_trees k.body)

-- the same of each case
abbrev pub all_fall_through : ℕ → List Clause → Bool
all_fall_through mark [] = true
all_fall_through mark (k ∷ ks) = falls_through mark k && all_fall_through mark ks

-- a `default` whose statements may be taken out
abbrev pub may_open : Clause → Bool
may_open k = k.is_default && (all_fit false k.body && none_goes false k.body)

-- such a `default` alone
abbrev pub is_alone : List Clause → Bool
is_alone (k ∷ []) = may_open k
is_alone _ = false

-- cases that end so
pub record DefaultAlone (mark : ℕ) (cs : List SwitchCase) : Type 0 where
  pub place : ℕ
  pub alone : (all_fall_through mark (clauses (take place cs)) && is_alone (clauses (drop place cs))) ≡ true
