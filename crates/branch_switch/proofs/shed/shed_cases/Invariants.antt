use Rattle.std.proofs.Common.{◌≡◌, ◌≤◌, ℕ, get_or, length, take}
use Rattle.swc_ast.specs.declared.statements.SwitchCase.{SwitchCase}
use Rattle.tree_walk.specs.Walks.{Each}
use Rattle.branch_switch.proofs.Sheds.{ShedEach}
use Rattle.branch_switch.proofs.shed.shed_cases.Given as goal

abbrev pub invariant-loop-i : goal.invariant-loop-i
invariant-loop-i l = ((length l.cases.items ≡ length l.initial.cases.items) × ((k : ℕ) (d : SwitchCase) → l.i ≤ k → get_or l.cases.items k d ≡ get_or l.initial.cases.items k d)) × Each ShedEach (take l.i l.initial.cases.items) (take l.i l.cases.items) l.shed
