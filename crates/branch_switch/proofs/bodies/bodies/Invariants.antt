use Rattle.std.proofs.Common.{◌≡◌}
use Rattle.std.specs.Vec.Iter.{into_iter_items}
use Rattle.swc_ast.specs.Parts.{list_trees}
use Rattle.swc_ast.specs.Scope.{joined}
use Rattle.swc_ast.specs.Views.{stmt_tree}
use Rattle.branch_rules.specs.Switches.{bodies_of}
use Rattle.branch_switch.specs.Clauses.{clauses}
use Rattle.branch_switch.proofs.bodies.bodies.Given as goal

abbrev pub invariant-loop-case : goal.invariant-loop-case
invariant-loop-case l = joined (list_trees stmt_tree l.out.items) (bodies_of (clauses (into_iter_items l.case-iterator))) ≡ bodies_of (clauses l.fn.cases.items)
