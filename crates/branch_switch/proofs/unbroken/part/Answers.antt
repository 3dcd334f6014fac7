use Rattle.std.proofs.Common.{refl}
use Rattle.swc_ast.specs.Parts.{list_trees}
use Rattle.swc_ast.specs.Views.{stmt_tree}
use Rattle.branch_switch.specs.Kept as keeping
use Rattle.branch_switch.proofs.Loops.{at_end, kept_on, gone_on}
use Rattle.branch_switch.proofs.unbroken.part.Goals as goal

pub loop-s-preserved : goal.loop-s-preserved
loop-s-preserved c = record {
  staying = kept_on (list_trees stmt_tree c.loop-s.kept.items) _ c.loop-s.stopped _ c.in-Some.s _ _ c.in-Some.ensures.steps.0 c.stopped_by-next.ensures c.in_ok-place.ensures.kept c.loop-s.invariant.staying;
  going = gone_on (list_trees stmt_tree c.loop-s.gone.items) _ c.loop-s.stopped _ c.in-Some.s _ _ c.in-Some.ensures.steps.0 c.stopped_by-next.ensures c.in_ok-place.ensures.gone c.loop-s.invariant.going;
}

pub returns-clause-kept : goal.returns-clause-kept
returns-clause-kept c = at_end (λ xs. keeping.kept c.loop-s.stopped (list_trees stmt_tree xs)) refl _ c.loop-s.s-iterator c.in-None.ensures.steps.0 c.loop-s.invariant.staying

pub returns-clause-gone : goal.returns-clause-gone
returns-clause-gone c = at_end (λ xs. keeping.gone c.loop-s.stopped (list_trees stmt_tree xs)) refl _ c.loop-s.s-iterator c.in-None.ensures.steps.0 c.loop-s.invariant.going
