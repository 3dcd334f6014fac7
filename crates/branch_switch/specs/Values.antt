-- Values that the code holds, and what is told of two of them.
use Rattle.std.specs.Prelude.{ℕ, ◌≡◌, ◌≤◌, true, false, List, [], ◌∷◌, length, take, drop, string_bytes}
use Rattle.swc_ast.specs.declared.statements.SwitchCase.{SwitchCase}
use Rattle.swc_ast.specs.Operators.{number_value}
use Rattle.swc_ast.specs.Tree.{Tree}
use Rattle.swc_ast.specs.Value.{Value, Undefined, Null, Truth, Text}
use Rattle.swc_utils.specs.Sound.{numeric}
use Rattle.branch_rules.specs.Switches.{Clause, no_default, Passed, Tested, IsMet, Selects}
use Rattle.branch_switch.specs.declared.values.Known.{Known}
use Rattle.branch_switch.specs.declared.values.Known.TheVariants as known
use Rattle.branch_switch.specs.Clauses.{clauses}
use Rattle.branch_switch.specs.declared.selection.Found.{Found}
use Rattle.branch_switch.specs.declared.selection.Found.TheVariants as found
use Rattle.branch_switch.specs.declared.selection.Meeting.{Meeting}
use Rattle.branch_switch.specs.declared.selection.Meeting.TheVariants as meeting

-- the value
abbrev pub value_in : Known → Value
value_in known.Undefined = Undefined
value_in known.Null = Null
value_in (known.Bool b) = Truth b
value_in (known.Num n) = number_value (numeric n)
value_in (known.Str s) = Text (string_bytes s)

-- what a test is to a value
abbrev pub Compares : ℕ → Value → Tree → Meeting → Type 0
Compares mark v t meeting.Unknown = Unit {0}
Compares mark v t meeting.Passed = Tested mark v t false
Compares mark v t meeting.Met = Tested mark v t true

-- what a case is to a value
abbrev pub Meets : ℕ → Value → Clause → Meeting → Type 0
Meets mark v k meeting.Unknown = Unit {0}
Meets mark v k meeting.Passed = Passed mark v (k ∷ [])
Meets mark v k meeting.Met = IsMet mark v k

-- what is found of the case that a value selects
abbrev pub Finds : ℕ → Value → List SwitchCase → Found → Type 0
Finds mark v cs found.Unknown = Unit {0}
Finds mark v cs found.Nothing = Passed mark v (clauses cs) × (no_default (clauses cs) ≡ true)
Finds mark v cs (found.At i) = Selects mark v (clauses (take i cs)) (clauses (drop i cs)) × (i ≤ length cs)
