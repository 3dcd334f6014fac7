use Rattle.std.proofs.Common.{◌≡◌, true, take}
use Rattle.swc_utils.specs.Globals.{unresolved}
use Rattle.branch_rules.specs.Switches.{no_default, Passed}
use Rattle.branch_switch.specs.Clauses.{clauses}
use Rattle.branch_switch.specs.Values.{value_in}
use Rattle.branch_switch.proofs.shed.passed_over.Given as goal

abbrev pub invariant-loop-i : goal.invariant-loop-i
invariant-loop-i l = Passed (unresolved l.ctx) (value_in l.value) (clauses (take l.i l.cases)) × (no_default (clauses (take l.i l.cases)) ≡ true)
