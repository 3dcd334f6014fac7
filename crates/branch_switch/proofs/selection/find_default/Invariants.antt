use Rattle.std.proofs.Common.{◌≡◌, true, take}
use Rattle.branch_rules.specs.Switches.{no_default}
use Rattle.branch_switch.specs.Clauses.{clauses}
use Rattle.branch_switch.proofs.selection.find_default.Given as goal

abbrev pub invariant-loop-i : goal.invariant-loop-i
invariant-loop-i l = no_default (clauses (take l.i l.cases)) ≡ true
