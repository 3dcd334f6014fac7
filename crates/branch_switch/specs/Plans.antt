-- What is to be done with a `switch`, and what it becomes.
use Rattle.std.specs.Prelude.{ℕ, ◌≡◌, ◌≤◌, true, false, List, [], ◌∷◌, length, take, drop}
use Rattle.swc_ast.specs.Tree.{Tree, Forest}
use Rattle.swc_ast.specs.Value.{Value}
use Rattle.swc_ast.specs.Views.{stmt_tree}
use Rattle.swc_ast.specs.declared.Span.{Span}
use Rattle.swc_ast.specs.declared.statements.Stmt.{Stmt}
use Rattle.swc_ast.specs.declared.statements.SwitchCase.{SwitchCase}
use Rattle.swc_utils.specs.Pure.{pure}
use Rattle.branch_rules.specs.Statements.{all_plain, as_statement}
use Rattle.branch_rules.specs.Switches.{Clause, FixedValue, switch_tree, no_default, Passed, Selects, SwitchStep}
use Rattle.branch_switch.specs.Clauses.{clauses, all_idle, plain_bodies}
use Rattle.branch_switch.specs.Defaults.{DefaultAlone}
use Rattle.branch_switch.specs.Kept.{bodies_fit}
use Rattle.branch_switch.specs.declared.plan.Plan.{Plan}
use Rattle.branch_switch.specs.declared.plan.Plan.TheVariants as plan

-- a statement in the place of a `switch`, by one of the rules
pub data Switched (mark : ℕ) (span : Span) (d : Tree) (ks : List Clause) (s : Stmt) : Type 0 where
  switched : (rs : List Span) {us : Forest} → SwitchStep mark (switch_tree (span ∷ []) d ks) us → stmt_tree s ≡ as_statement rs us → Switched mark span d ks s

-- a discriminant whose value is known and that does nothing
pub record Known (mark : ℕ) (d : Tree) (v : Value) : Type 0 where
  pub pure_value : pure mark d ≡ true
  pub known_value : FixedValue mark d v

-- no case is selected, and none declares anything
pub record SelectsNone (mark : ℕ) (d : Tree) (ks : List Clause) : Type 0 where
  pub none_value : Value
  pub none_known : Known mark d none_value
  pub none_passed : Passed mark none_value ks
  pub without_default : no_default ks ≡ true
  pub none_plain : plain_bodies ks ≡ true

-- a case is selected, those in front of it declare nothing, and its statements and those behind may be taken out
pub record SelectsFrom (mark : ℕ) (d : Tree) (fs ks : List Clause) : Type 0 where
  pub from_value : Value
  pub from_known : Known mark d from_value
  pub selects : Selects mark from_value fs ks
  pub front_plain : plain_bodies fs ≡ true
  pub back_fits : bodies_fit false ks ≡ true

-- a case that isn't `default`, that declares nothing, and that a value passes
pub record Skipped (mark : ℕ) (v : Value) (k : Clause) : Type 0 where
  pub skipped_named : k.is_default ≡ false
  pub skipped_plain : all_plain k.body ≡ true
  pub skipped_passed : Passed mark v (k ∷ [])

-- as many cases in front are such ones
pub record Leads (mark : ℕ) (v : Value) (cs : List SwitchCase) (n : ℕ) : Type 0 where
  pub leads_passed : Passed mark v (clauses (take n cs))
  pub leads_named : no_default (clauses (take n cs)) ≡ true
  pub leads_plain : plain_bodies (clauses (take n cs)) ≡ true
  pub leads_within : n ≤ length cs

-- cases in front are passed, and declare nothing
pub record StartsBehind (mark : ℕ) (d : Tree) (fs : List Clause) : Type 0 where
  pub behind_value : Value
  pub behind_known : FixedValue mark d behind_value
  pub behind_passed : Passed mark behind_value fs
  pub behind_named : no_default fs ≡ true
  pub behind_plain : plain_bodies fs ≡ true

-- what a plan is made for
abbrev pub Planned : ℕ → Tree → List SwitchCase → Plan → Type 0
Planned mark d cs plan.Idle = all_idle mark (clauses cs) ≡ true
Planned mark d cs plan.Nothing = SelectsNone mark d (clauses cs)
Planned mark d cs (plan.From i) = SelectsFrom mark d (clauses (take i cs)) (clauses (drop i cs)) × (i ≤ length cs)
Planned mark d cs plan.Default = DefaultAlone mark cs
Planned mark d cs (plan.Behind i) = StartsBehind mark d (clauses (take i cs)) × (1 ≤ i) × (i ≤ length cs)
