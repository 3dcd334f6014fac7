use Rattle.std.proofs.Common.{refl}
use Rattle.swc_ast.specs.Parts.{list_trees}
use Rattle.swc_ast.specs.Views.{stmt_tree}
use Rattle.branch_rules.specs.Switches.{bodies_of}
use Rattle.branch_switch.specs.Clauses.{clauses}
use Rattle.branch_switch.proofs.Loops.{at_end, bodies_on}
use Rattle.branch_switch.proofs.bodies.bodies.Goals as goal

pub loop-case-preserved : goal.loop-case-preserved
loop-case-preserved c = bodies_on (list_trees stmt_tree c.loop-case.out.items) _ c.in-Some.case _ _ c.in-Some.ensures.steps.0 c.in_ok-push_body.ensures c.loop-case.invariant

pub returns : goal.returns
returns c = at_end (λ xs. bodies_of (clauses xs)) refl _ c.loop-case.case-iterator c.in-None.ensures.steps.0 c.loop-case.invariant
