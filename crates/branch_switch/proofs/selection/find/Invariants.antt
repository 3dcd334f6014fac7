use Rattle.std.proofs.Common.{take}
use Rattle.swc_utils.specs.Globals.{unresolved}
use Rattle.branch_rules.specs.Switches.{Passed}
use Rattle.branch_switch.specs.Clauses.{clauses}
use Rattle.branch_switch.specs.Values.{value_in}
use Rattle.branch_switch.proofs.selection.find.Given as goal

abbrev pub invariant-loop-i : goal.invariant-loop-i
invariant-loop-i l = Passed (unresolved l.ctx) (value_in l.value) (clauses (take l.i l.cases))
